use Rattle.clock_nexts.specs.Gather.{Gathered}
use Rattle.clock_nexts.proofs.recurring.Given as goal

abbrev pub invariant-loop-i : goal.invariant-loop-i
invariant-loop-i l = Gathered l.times l.i l.s
