-- `task_in` meets its contract.
use Rattle.answers_tasks.specs.Found.{task_lacking, task_there}
use Rattle.answers_tasks.proofs.task_in.Goals as goal

pub returns-then-e-k : goal.returns-then-e-k
returns-then-e-k c = task_lacking _ _ _ _ _ _ c.task_row-k.ensures c.if-e-k.true

pub returns : goal.returns
returns c = task_there _ _ _ _ _ _ c.task_row-k.ensures c.if-e-k.false c.task_answer-x.ensures
