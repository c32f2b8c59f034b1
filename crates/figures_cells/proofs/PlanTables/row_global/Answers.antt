-- `row_global` meets its contract.
use Rattle.figures.specs.PartLaws.{owner_global}
use Rattle.plan_tables.specs.Layout.{mutex_row}
use lib.Dec.{eqb}
use mathlib.Core.Bool.{◌&&◌}
use mathlib.Core.Path.{ap₂, refl}
use Rattle.figures_cells.proofs.PlanTables.row_global.Goals as goal

pub returns : goal.returns
unfolding mutex_row
returns c = ap₂ ◌&&◌ (ap₂ eqb c.mutex_cell.ensures refl) (owner_global c.mutex_cell-2.ensures)
