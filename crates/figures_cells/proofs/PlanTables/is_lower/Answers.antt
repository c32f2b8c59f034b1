-- `is_lower` meets its contract.
use Rattle.plan_tables.specs.Layout.{task_row}
use lib.Dec.{eqb, ltb}
use mathlib.Core.Bool.{◌&&◌}
use mathlib.Core.Path.{ap₂}
use Rattle.figures_cells.proofs.PlanTables.is_lower.Goals as goal

pub returns : goal.returns
unfolding task_row
returns c = ap₂ ◌&&◌ (ap₂ eqb c.task_cell.ensures.is c.task_cell-2.ensures.is) (ap₂ ltb c.task_cell-3.ensures.is c.task_cell-4.ensures.is)
