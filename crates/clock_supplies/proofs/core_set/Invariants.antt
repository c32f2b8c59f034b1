-- `core_set` meets its contract. The loop's invariant: the VCPUs below v are in the set as the times say.
use Prim.Native.Nat.{◌<◌, ◌≤◌}
use Rattle.clock_supplies.specs.CoreLaws.{CoreBelow}
use Rattle.clock_supplies.proofs.core_set.Given as goal

abbrev pub invariant-loop-v : goal.invariant-loop-v
invariant-loop-v l = (0 < l.v) × (l.v ≤ 17) × CoreBelow l.times l.c l.v l.s
