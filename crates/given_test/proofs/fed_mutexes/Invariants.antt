use Rattle.given_test.specs.Feed.{Fed, mutex_lines}
use Rattle.given_test.proofs.fed_mutexes.Given as goal

abbrev pub invariant-loop-i : goal.invariant-loop-i
invariant-loop-i l = Fed l.initial.s (mutex_lines l.t) l.n l.s l.i
