-- `task_rows` meets its contract: the rows of the tasks before this one are written.
use Rattle.figures_cells.specs.Held.{system_of}
use mathlib.Core.List.{[]}
use mathlib.Core.Path.{◌≡◌}
use lib.ListN.{length}
use Rattle.search.specs.Row.{Picked}
use Rattle.plan_tables.specs.Layout.{vcpu_row, task_row}
use Rattle.figures_slices.specs.Costs.{blocking_cost, cost_row, costs}
use Rattle.times_vcpus.proofs.task_rows.Given as goal

abbrev pub invariant-loop-k : goal.invariant-loop-k
invariant-loop-k l = (length l.rows ≡ length l.initial.rows) × Picked (costs (blocking_cost l.d (system_of l.t) (vcpu_row l.t.vcpus.now l.a))) (cost_row (blocking_cost l.d (system_of l.t) (vcpu_row l.t.vcpus.now l.a))) (task_row l.t.tasks.now) [] 0 l.count l.rows l.n l.k
