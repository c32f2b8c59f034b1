-- `push_task` meets its contract.
use Rattle.search.specs.Row.{pushed}
use Rattle.plan_tables.specs.Layout.{task_row}
use Rattle.times_tasks.specs.WaitLaws.{preempt_row_is}
use mathlib.Core.Path.{◌∙◌, ap}
use native.Mathlib.Omega.{arith}
use Rattle.times_tasks.proofs.push_task.Goals as goal

pub overflow_add-gap : goal.overflow_add-gap
unfolding task_row
overflow_add-gap c = let h = c.requires in omega (arith, (h.1.waits.at _ h.3).small, h.2)

pub returns : goal.returns
unfolding task_row
returns c = let h = c.requires in
    c.push_row.ensures
    ∙ ap (pushed _ _) (preempt_row_is _ _ _ (h.1.waits.at _ h.3).is c.task_cell-period.ensures.is (h.0.spans.at _ h.3).is)
