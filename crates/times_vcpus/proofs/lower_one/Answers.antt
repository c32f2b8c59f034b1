-- `lower_one` meets its contract.
use Rattle.figures.specs.PartLaws.{is_in, is_out}
use Rattle.plan_tables.specs.Layout.{vcpu_row}
use lib.Dec.{eqb}
use mathlib.Core.Bool.{◌&&◌}
use mathlib.Core.Path.{ap, ap₂, refl}
use native.Mathlib.Omega.{arith}
use Rattle.times_vcpus.proofs.lower_one.Goals as goal

pub returns-then-lower-v : goal.returns-then-lower-v
unfolding vcpu_row
returns-then-lower-v c = is_in (ap₂ ◌&&◌ c.is_lower_on-lower.ensures (ap (eqb _) c.vcpu_cell.ensures.is)) c.if-lower-v.true (record { is = refl; small = omega arith })

pub returns-else-lower-v : goal.returns-else-lower-v
unfolding vcpu_row
returns-else-lower-v c = is_out _ _ (ap₂ ◌&&◌ c.is_lower_on-lower.ensures (ap (eqb _) c.vcpu_cell.ensures.is)) c.if-lower-v.false
