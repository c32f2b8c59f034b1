-- `wait_cost` meets its contract.
use Rattle.figures.specs.PartLaws.{is_in, is_out}
use Rattle.plan_tables.specs.Layout.{task_row}
use Rattle.figures_slices.specs.Costs.{wait_cost}
use borrow.Author.Tests.{le-ltb, lt-ltb}
use lib.Dec.{ltb}
use mathlib.Core.Path.{ap}
use Rattle.times_waits.proofs.wait_cost.Goals as goal

pub returns-then-v-task_cell : goal.returns-then-v-task_cell
unfolding wait_cost task_row
returns-then-v-task_cell c = is_in (ap (ltb _) c.task_cell.ensures.is) (lt-ltb _ _ c.if-v-task_cell.true) c.sum_on.ensures

pub returns-else-v-task_cell : goal.returns-else-v-task_cell
unfolding wait_cost task_row
returns-else-v-task_cell c = is_out _ _ (ap (ltb _) c.task_cell.ensures.is) (le-ltb _ _ c.if-v-task_cell.false)
