-- `wait_rows` meets its contract: the rows of the tasks before this one are written.
use Rattle.figures_cells.specs.Held.{system_of}
use mathlib.Core.List.{[]}
use mathlib.Core.Path.{◌≡◌}
use lib.ListN.{length}
use Rattle.laws.specs.Rows.{rows}
use Rattle.search.specs.Row.{Picked}
use Rattle.plan_tables.specs.Layout.{task_row}
use Rattle.figures_slices.specs.Costs.{wait_cost, cost_row, costs}
use Rattle.times_waits.proofs.wait_rows.Given as goal

abbrev pub invariant-loop-k : goal.invariant-loop-k
invariant-loop-k l = (length l.rows ≡ length l.initial.rows) × Picked (costs (wait_cost (system_of l.t) l.v l.m)) (cost_row (wait_cost (system_of l.t) l.v l.m)) (task_row l.t.tasks.now) [] 0 l.count l.rows l.n l.k
