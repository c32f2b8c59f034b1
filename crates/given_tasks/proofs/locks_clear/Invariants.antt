use Rattle.laws.specs.Rows.{Passed}
use Rattle.given_tasks.specs.Clear.{lock_at}
use Rattle.given_tasks.proofs.locks_clear.Given as goal

abbrev pub invariant-loop-j : goal.invariant-loop-j
invariant-loop-j l = Passed (lock_at l.owners l.opens l.t l.guest l.v l.i) (λ k. k) l.c l.j
