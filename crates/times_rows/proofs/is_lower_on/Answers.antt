-- `is_lower_on` meets its contract.
use Rattle.plan_tables.specs.Layout.{vcpu_row}
use lib.Dec.{eqb, ltb}
use mathlib.Core.Bool.{◌&&◌}
use mathlib.Core.Path.{ap₂}
use Rattle.times_rows.proofs.is_lower_on.Goals as goal

pub returns : goal.returns
unfolding vcpu_row
returns c = ap₂ ◌&&◌ (ap₂ ltb c.vcpu_cell.ensures.is c.vcpu_cell-2.ensures.is) (ap₂ eqb c.vcpu_cell-3.ensures.is c.vcpu_cell-4.ensures.is)
