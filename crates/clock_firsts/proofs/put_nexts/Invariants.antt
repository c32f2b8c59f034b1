-- `put_nexts` meets its contract: the nexts before this one are the first.
use Prim.Native.Nat.{◌≤◌}
use Rattle.clock_nexts.specs.Nexts.{Wrote}
use Rattle.clock_firsts.specs.Firsts.{first_nexts}
use Rattle.clock_firsts.proofs.put_nexts.Given as goal

abbrev pub invariant-loop-i : goal.invariant-loop-i
invariant-loop-i l = Wrote (first_nexts l.times) l.initial.nexts l.nexts 0 l.i × (l.i ≤ 144)
