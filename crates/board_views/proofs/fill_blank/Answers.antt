-- `fill_blank` meets its contract: the numbers before this one are written.
use Rattle.board_viewcells.proofs.FillLaws.{written_more, written_none}
use Rattle.board_views.specs.SheetLaws.{written_blank}
use borrow.Author.Rules.{rules}
use mathlib.Core.Path.{refl}
use Rattle.board_views.proofs.fill_blank.Goals as goal

pub loop-k-init : goal.loop-k-init
loop-k-init c = written_none refl

pub loop-k-preserved : goal.loop-k-preserved
loop-k-preserved c = written_more (search rules) c.loop-k.invariant c.loop-k-test.true c.blank_cell.ensures

pub returns : goal.returns
returns c = written_blank (search rules) c.loop-k.invariant c.loop-k-test.false
