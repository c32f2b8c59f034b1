-- `holds_in` meets its contract. The loop's invariant: those left hold a global mutex just where the holders of v do.
use Prim.Native.Nat.{◌<◌}
use mathlib.Core.Path.{◌≡◌}
use Rattle.clock_hands.specs.Holding.{global_among, holds_in}
use Rattle.clock_frees.proofs.holds_in.Given as goal

abbrev pub invariant-loop-rest : goal.invariant-loop-rest
invariant-loop-rest l = (l.rest < 256) × (global_among l.marks l.v l.rest ≡ holds_in l.marks l.v)

abbrev pub decreases-loop-rest : goal.decreases-loop-rest
decreases-loop-rest l = l.rest
