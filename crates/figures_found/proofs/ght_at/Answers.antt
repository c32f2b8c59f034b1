-- `ght_at` meets its contract.
use Rattle.figures.specs.PartLaws.{is_in, is_out}
use Rattle.plan_tables.specs.Layout.{task_row}
use borrow.Author.Tests.{eq-eqb, ne_eqb}
use lib.Dec.{eqb}
use mathlib.Core.Path.{ap₂, refl}
use Rattle.figures_found.proofs.ght_at.Goals as goal

pub returns-then-task_cell-v : goal.returns-then-task_cell-v
unfolding task_row
returns-then-task_cell-v c = is_in (ap₂ eqb c.task_cell.ensures.is refl) (eq-eqb _ _ c.if-task_cell-v.true) c.longest_global.ensures

pub returns-else-task_cell-v : goal.returns-else-task_cell-v
unfolding task_row
returns-else-task_cell-v c = is_out _ _ (ap₂ eqb c.task_cell.ensures.is refl) (ne_eqb _ _ c.if-task_cell-v.false)
