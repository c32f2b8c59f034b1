-- `wait_start` meets its contract.
use Rattle.figures_cells.specs.Held.{system_of}
use Rattle.laws.specs.Choice.{when}
use Rattle.laws.specs.Rows.{Greatest}
use Rattle.laws.specs.Sums.{greatest}
use Rattle.figures_slices.specs.Stored.{max_response}
use Rattle.plan_tables.specs.Layout.{task_row}
use Rattle.figures_slices.specs.Costs.{response_on}
use lib.Dec.{ltb}
use Rattle.times_waits.proofs.wait_start.Given as goal

abbrev pub invariant-loop-i : goal.invariant-loop-i
invariant-loop-i l = Greatest (λ k. when (ltb k.v l.v) (greatest (response_on (system_of l.t) l.m k) k.locks)) (task_row l.t.tasks.now) max_response l.n l.s l.i
