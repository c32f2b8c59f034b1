-- `row_task` meets its contract.
use Rattle.plan_tables.specs.Layout.{task_row}
use lib.Dec.{eqb}
use mathlib.Core.Bool.{◌&&◌}
use mathlib.Core.Path.{ap₂, refl}
use Rattle.figures_cells.proofs.PlanTables.row_task.Goals as goal

pub returns : goal.returns
unfolding task_row
returns c = ap₂ ◌&&◌ (ap₂ eqb c.task_cell.ensures.is refl) (ap₂ eqb c.task_cell-2.ensures.is refl)
