-- `task_answer` meets its contract.
use mathlib.Core.Path.{◌∙◌}
use Rattle.answers_tasks.proofs.task_answer.Goals as goal

pub returns : goal.returns
returns c =
    c.task_answer_at.ensures ∙ c.fill_answers.ensures.tasks.at _ c.requires
