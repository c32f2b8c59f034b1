-- `records_board::step_in` meets its contract.
use mathlib.Core.Path.{sym}
use lib.Seq.{length-take-le}
use Rattle.records_board.proofs.step_in.Goals as goal

pub slice_bounds-step-end : goal.slice_bounds-step-end
slice_bounds-step-end c = sym (length-take-le _ _ c.requires)
