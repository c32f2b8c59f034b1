-- `wait_at` meets its contract.
use Rattle.figures_slices.specs.Places.{wait_is}
use Rattle.plan.specs.Lookup.{global}
use Rattle.plan_tables.specs.Layout.{lock_row, task_row}
use mathlib.Core.Path.{◌∙◌, ap}
use native.Mathlib.Omega.{arith}
use Rattle.answers_waits.proofs.wait_at.Goals as goal

pub wait_answer-requires : goal.wait_answer-requires
unfolding lock_row task_row
wait_answer-requires c = let h = c.requires in (h.0, h.1, ap (global _) c.lock_cell-m.ensures.is ∙ h.4, h.5, omega (arith, c.task_cell-limit.ensures.small))

pub returns : goal.returns
unfolding lock_row task_row
returns c = c.wait_answer.ensures ∙ wait_is _ _ _ c.task_cell-v.ensures.is c.lock_cell-m.ensures.is c.task_cell-limit.ensures.is
