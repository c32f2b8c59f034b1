use Rattle.clock_reaches.specs.Bounds.{Bounded}
use Rattle.clock_reaches.proofs.bound.Given as goal

abbrev pub invariant-loop-rest : goal.invariant-loop-rest
invariant-loop-rest l = Bounded l.left l.set l.k l.rest l.least

abbrev pub decreases-loop-rest : goal.decreases-loop-rest
decreases-loop-rest l = l.rest
