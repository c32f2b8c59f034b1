-- `task_answer_at` meets its contract.
use Rattle.answers_told.specs.Read.{task_answer_in}
use Rattle.answers_told.proofs.task_answer_at.Goals as goal

pub returns : goal.returns
unfolding task_answer_in
returns c = c.task_answer_of.ensures
