-- `renew` meets its contract: the nexts before this one are renewed, and r is the least of them.
use Prim.Native.Nat.{◌≤◌}
use Rattle.clock_nexts.specs.Nexts.{renewal, Wrote, Soonest}
use Rattle.clock_nexts.proofs.renew.Given as goal

abbrev pub invariant-loop-i : goal.invariant-loop-i
invariant-loop-i l = (l.a ≤ l.i) × (l.i ≤ l.e) × Wrote (renewal l.times l.initial.nexts l.t) l.initial.nexts l.nexts l.a l.i × Soonest (renewal l.times l.initial.nexts l.t) l.a l.i l.r
