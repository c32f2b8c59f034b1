use Rattle.given_test.specs.Feed.{Fed, open_lines}
use Rattle.given_test.proofs.fed_opens.Given as goal

abbrev pub invariant-loop-i : goal.invariant-loop-i
invariant-loop-i l = Fed l.initial.s (open_lines l.t) l.n l.s l.i
