-- `fill_blank` meets its contract: the numbers before this one are written.
use Rattle.figures_cells.specs.Held.{system_of}
use Rattle.board_viewcells.proofs.FillLaws.{Written}
use Rattle.board_views.specs.Sheets.{blank_at}
use lib.ListN.{length}
use Rattle.board_views.proofs.fill_blank.Given as goal

abbrev pub invariant-loop-k : goal.invariant-loop-k
invariant-loop-k l = Written (blank_at (system_of l.t)) (length l.initial.view) l.view l.k l.k
