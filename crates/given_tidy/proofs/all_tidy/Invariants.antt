use Rattle.laws.specs.Rows.{Passed}
use Rattle.given_tidy.specs.Tests.{tidy}
use Rattle.given_tidy.proofs.all_tidy.Given as goal

abbrev pub invariant-loop-i : goal.invariant-loop-i
invariant-loop-i l = Passed (tidy l.t) (λ k. k) l.n l.i
