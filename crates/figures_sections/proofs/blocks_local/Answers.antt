-- `blocks_local` meets its contract.
use Rattle.figures.specs.Figures.{longest_local}
use Rattle.figures.specs.PartLaws.{is_in, is_out, is_then}
use Rattle.plan_tables.specs.Layout.{task_row}
use mathlib.Core.Path.{ap₂, refl}
use Rattle.figures_sections.proofs.blocks_local.Goals as goal

pub returns-then-is_lower : goal.returns-then-is_lower
unfolding task_row
returns-then-is_lower c = is_in c.is_lower.ensures c.if-is_lower.true (is_then c.longest_local.ensures (ap₂ (longest_local _) c.task_cell.ensures.is refl))

pub returns-else-is_lower : goal.returns-else-is_lower
unfolding task_row
returns-else-is_lower c = is_out _ _ c.is_lower.ensures c.if-is_lower.false
