-- `task_answer` meets its contract.
use Rattle.figures.specs.declared.TaskAnswer.TheVariants.{Searched}
use Rattle.times_tasks.specs.WaitLaws.{answer_held, answer_none, answer_searched}
use mathlib.Core.Path.{◌∙◌, ap, sym}
use Rattle.times_tasks.proofs.task_answer.Goals as goal

pub returns-then-lacks : goal.returns-then-lacks
returns-then-lacks c = answer_none _ _ (sym c.lacks.ensures ∙ c.if-lacks.true)

pub returns-then-is_held : goal.returns-then-is_held
returns-then-is_held c = answer_held _ _ (sym c.lacks.ensures ∙ c.if-lacks.false) (sym c.is_held.ensures ∙ c.if-is_held.true)

pub returns : goal.returns
returns c = ap Searched c.task_search-a.ensures
    ∙ answer_searched _ _ (sym c.lacks.ensures ∙ c.if-lacks.false) (sym c.is_held.ensures ∙ c.if-is_held.false)
