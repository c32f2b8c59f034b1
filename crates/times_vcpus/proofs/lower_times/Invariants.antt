-- `lower_times` meets its contract.
use Rattle.figures.specs.Figures.{lower_on}
use Rattle.laws.specs.Choice.{when}
use Rattle.laws.specs.Rows.{Summed}
use Rattle.plan_tables.specs.Layout.{vcpu_row}
use lib.Dec.{eqb}
use mathlib.Core.Bool.{◌&&◌}
use Rattle.times_vcpus.proofs.lower_times.Given as goal

abbrev pub invariant-loop-b : goal.invariant-loop-b
invariant-loop-b l = Summed (λ y. when (lower_on (vcpu_row l.t.vcpus.now l.a) y && eqb l.v y.v) 1) (vcpu_row l.t.vcpus.now) 1 l.n l.s l.b
