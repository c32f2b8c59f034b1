-- `is_section` meets its contract.
use Rattle.figures_slices.specs.Filled.{section_at}
use Rattle.plan.specs.Lookup.{global}
use Rattle.plan_tables.specs.Layout.{lock_row}
use lib.Dec.{ltb}
use mathlib.Core.Bool.{◌&&◌}
use mathlib.Core.Path.{◌∙◌, ap, ap₂}
use Rattle.answers_waits.proofs.is_section.Goals as goal

pub returns : goal.returns
unfolding section_at lock_row
returns c = ap₂ ◌&&◌ (ap (ltb _) c.lock_count.ensures.is) (c.is_global.ensures ∙ ap (global _) c.lock_cell-m.ensures.is)
