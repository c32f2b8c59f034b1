-- `global_ticks` meets its contract.
use Rattle.figures.specs.PartLaws.{is_in, is_out}
use Rattle.plan.specs.Lookup.{global}
use Rattle.plan_tables.specs.Layout.{lock_row}
use mathlib.Core.Path.{◌∙◌, ap}
use Rattle.figures_cells.proofs.PlanTables.global_ticks.Goals as goal

pub returns-then-is_global : goal.returns-then-is_global
unfolding lock_row
returns-then-is_global c = is_in (c.is_global.ensures ∙ ap (global _) c.lock_cell-m.ensures.is) c.if-is_global.true c.lock_cell.ensures

pub returns-else-is_global : goal.returns-else-is_global
unfolding lock_row
returns-else-is_global c = is_out _ _ (c.is_global.ensures ∙ ap (global _) c.lock_cell-m.ensures.is) c.if-is_global.false
