-- `ceiling_at` meets its contract.
use Rattle.figures.specs.PartLaws.{is_in, is_out}
use Rattle.plan_tables.specs.Layout.{task_row}
use Rattle.figures_sections.proofs.ceiling_at.Goals as goal

pub returns-then-locks_it : goal.returns-then-locks_it
unfolding task_row
returns-then-locks_it c = is_in c.locks_it.ensures c.if-locks_it.true c.task_cell.ensures

pub returns-else-locks_it : goal.returns-else-locks_it
unfolding task_row
returns-else-locks_it c = is_out _ _ c.locks_it.ensures c.if-locks_it.false
