-- `preemption_of` meets its contract.
use Rattle.figures_cells.specs.Held.{system_of}
use Rattle.figures.specs.Figures.{ght, higher_on}
use Rattle.laws.specs.Choice.{when}
use Rattle.laws.specs.Rows.{Summed}
use Rattle.plan_tables.specs.Layout.{vcpu_row}
use Rattle.figures_vcpus.proofs.preemption_of.Given as goal

abbrev pub invariant-loop-b : goal.invariant-loop-b
invariant-loop-b l = Summed (λ y. when (higher_on (vcpu_row l.t.vcpus.now l.a) y) (ght (system_of l.t) y.v)) (vcpu_row l.t.vcpus.now) 64000000 l.n l.s l.b
