-- `soonest` meets its contract: r is the least of the cells before this one.
use Prim.Native.Nat.{◌+◌, ◌-◌, ◌≤◌}
use lib.ListN.{get_or}
use Rattle.clock_nexts.specs.Nexts.{Soonest}
use Rattle.clock_renews.proofs.soonest.Given as goal

abbrev pub invariant-loop-x : goal.invariant-loop-x
invariant-loop-x l = (l.x-index ≤ l.e - l.a) × Soonest (λ j. get_or l.nexts j 0) l.a (l.a + l.x-index) l.r
