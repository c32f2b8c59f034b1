-- `answer_of` meets its contract.
use borrow.Author.Tests.{eq-eqb, ne_eqb}
use Rattle.answers_told.proofs.answer_of.Goals as goal

pub returns-then-k-eq1 : goal.returns-then-k-eq1
returns-then-k-eq1 c = rw (eq-eqb _ _ c.if-k-eq1.true)

pub returns-else-k-eq1 : goal.returns-else-k-eq1
returns-else-k-eq1 c = rw (ne_eqb _ _ c.if-k-eq1.false)
