-- `period_of` meets its contract.
use Rattle.plan.specs.Plan.{Task}
use Rattle.plan_tables.specs.Layout.{task_row}
use Rattle.clock_cells.specs.FillLaws.{task_none, task_row_law}
use mathlib.Core.Path.{◌∙◌, ap, sym}
use Rattle.clock_cells.proofs.period_of.Goals as goal

pub returns-then-n-a : goal.returns-then-n-a
unfolding task_row
returns-then-n-a c = ap (λ (x : Task). x.period) (sym (task_none _ _ _ c.if-n-a.true))

pub returns : goal.returns
unfolding task_row
returns c = c.task_cell.ensures.is ∙ ap (λ (x : Task). x.period) (sym (task_row_law _ _ _ c.if-n-a.false))
