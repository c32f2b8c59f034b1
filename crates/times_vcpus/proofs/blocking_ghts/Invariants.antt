-- `blocking_ghts` meets its contract.
use Rattle.figures_cells.specs.Held.{system_of}
use Rattle.laws.specs.Rows.{Summed}
use Rattle.plan_tables.specs.Layout.{vcpu_row}
use Rattle.figures_slices.specs.Costs.{blocking_ght}
use Rattle.times_vcpus.proofs.blocking_ghts.Given as goal

abbrev pub invariant-loop-b : goal.invariant-loop-b
invariant-loop-b l = Summed (blocking_ght l.d (system_of l.t) (vcpu_row l.t.vcpus.now l.a)) (vcpu_row l.t.vcpus.now) 64000000 l.n l.s l.b
