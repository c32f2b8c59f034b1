-- `put_place` meets its contract.
use Prim.Native.Nat.{ℕ, ◌+◌}
use mathlib.Core.Path.{ap}
use lib.ListN.{set}
use Rattle.clock_puts.proofs.put_place.Goals as goal

pub returns : goal.returns
returns c = ap (λ (j : ℕ). set c.args.marks.now (291 + j) c.args.q) c.seat.ensures.0
