-- `task_answer_of` meets its contract.
use borrow.Author.Tests.{eq-eqb, ne_eqb}
use mathlib.Core.Path.{ap}
use Rattle.figures.specs.declared.TaskAnswer.TheVariants.{Searched}
use Rattle.answers_told.proofs.task_answer_of.Goals as goal

pub returns-then-k-eq2 : goal.returns-then-k-eq2
returns-then-k-eq2 c = rw (eq-eqb _ _ c.if-k-eq2.true)

pub returns-then-k-eq3 : goal.returns-then-k-eq3
returns-then-k-eq3 c = rw (ne_eqb _ _ c.if-k-eq2.false, eq-eqb _ _ c.if-k-eq3.true)

pub returns : goal.returns
returns c = rw (ne_eqb _ _ c.if-k-eq2.false, ne_eqb _ _ c.if-k-eq3.false) (ap Searched c.answer_of-a.ensures)
