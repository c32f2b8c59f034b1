use Rattle.clock_spends.specs.Losing.{Losing}
use Rattle.clock_spends.proofs.lose.Given as goal

abbrev pub invariant-loop-rest : goal.invariant-loop-rest
invariant-loop-rest l = Losing l.initial.left l.set l.k l.rest l.left

abbrev pub decreases-loop-rest : goal.decreases-loop-rest
decreases-loop-rest l = l.rest
