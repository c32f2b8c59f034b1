-- `blocking_costs` meets its contract.
use Rattle.figures_cells.specs.Held.{system_of}
use Rattle.laws.specs.Rows.{Summed}
use Rattle.plan_tables.specs.Layout.{task_row, vcpu_row}
use Rattle.figures_slices.specs.Costs.{blocking_cost}
use Rattle.times_vcpus.proofs.blocking_costs.Given as goal

abbrev pub invariant-loop-k : goal.invariant-loop-k
invariant-loop-k l = Summed (blocking_cost l.d (system_of l.t) (vcpu_row l.t.vcpus.now l.a)) (task_row l.t.tasks.now) 128000000 l.n l.s l.k
