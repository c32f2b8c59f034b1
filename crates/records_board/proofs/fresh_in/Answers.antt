-- `records_board::fresh_in` meets its contract.
use mathlib.Core.Path.{sym}
use lib.Seq.{length-take-le}
use Rattle.records_board.proofs.fresh_in.Goals as goal

pub slice_bounds-fresh-end : goal.slice_bounds-fresh-end
slice_bounds-fresh-end c = sym (length-take-le _ _ c.requires)
