-- `rows_fit` meets its contract: the answers before this one are fits.
use Rattle.laws.specs.Rows.{Passed}
use Rattle.answers_told.specs.Read.{fits_in}
use Rattle.answers_told.proofs.rows_fit.Given as goal

abbrev pub invariant-loop-k : goal.invariant-loop-k
invariant-loop-k l = Passed (fits_in l.xs) (λ m. m) l.n l.k
