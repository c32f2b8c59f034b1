-- `most_lower` meets its contract.
use Rattle.figures.specs.PartLaws.{is_in, is_out}
use Rattle.plan_tables.specs.Layout.{task_row}
use borrow.Author.Tests.{le-ltb, lt-ltb}
use lib.Dec.{ltb}
use mathlib.Core.Path.{ap₂, refl}
use Rattle.times_waits.proofs.most_lower.Goals as goal

pub returns-then-task_cell-v : goal.returns-then-task_cell-v
unfolding task_row
returns-then-task_cell-v c = is_in (ap₂ ltb c.task_cell.ensures.is refl) (lt-ltb _ _ c.if-task_cell-v.true) c.most_on.ensures

pub returns-else-task_cell-v : goal.returns-else-task_cell-v
unfolding task_row
returns-else-task_cell-v c = is_out _ _ (ap₂ ltb c.task_cell.ensures.is refl) (le-ltb _ _ c.if-task_cell-v.false)
