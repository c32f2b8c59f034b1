-- `done` meets its contract.
use Prim.Native.Nat.{ℕ, ◌+◌}
use mathlib.Core.Path.{◌∙◌, ap}
use lib.ListN.{get_or}
use Rattle.clock_puts.proofs.done.Goals as goal

pub returns : goal.returns
returns c = c.at.ensures ∙ ap (λ (j : ℕ). get_or c.args.marks.now (163 + j) 0) c.seat.ensures.0
