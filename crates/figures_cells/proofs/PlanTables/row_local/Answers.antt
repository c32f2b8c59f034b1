-- `row_local` meets its contract.
use Rattle.figures.specs.PartLaws.{owner_local}
use Rattle.plan_tables.specs.Layout.{mutex_row}
use lib.Dec.{eqb}
use mathlib.Core.Bool.{◌&&◌}
use mathlib.Core.Path.{ap₂, refl}
use Rattle.figures_cells.proofs.PlanTables.row_local.Goals as goal

pub returns : goal.returns
unfolding mutex_row
returns c = let o = c.mutex_cell-owner.ensures in
    ap₂ ◌&&◌ (ap₂ eqb c.mutex_cell.ensures refl) (owner_local _ o)
