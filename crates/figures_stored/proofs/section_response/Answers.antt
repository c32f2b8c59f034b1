-- `section_response` meets its contract.
use Rattle.figures.specs.PartLaws.{is_in, is_out}
use Rattle.plan.specs.Lookup.{global}
use Rattle.figures_slices.specs.Filled.{section_at}
use Rattle.figures_slices.specs.Stored.{section_response}
use Rattle.plan_tables.specs.Layout.{lock_row}
use lib.Dec.{ltb}
use mathlib.Core.Bool.{◌&&◌}
use mathlib.Core.Path.{◌∙◌, ap, ap₂}
use Rattle.figures_stored.proofs.section_response.Goals as goal

pub returns-then-j-lock_count : goal.returns-then-j-lock_count
unfolding section_response section_at lock_row
returns-then-j-lock_count c = is_in (ap₂ ◌&&◌ (ap (ltb _) c.lock_count.ensures.is) (c.is_global.ensures ∙ ap (global _) c.lock_cell-m.ensures.is))
    c.if-j-lock_count.true c.response_of.ensures

pub returns-else-j-lock_count : goal.returns-else-j-lock_count
unfolding section_response section_at lock_row
returns-else-j-lock_count c = is_out _ _ (ap₂ ◌&&◌ (ap (ltb _) c.lock_count.ensures.is) (c.is_global.ensures ∙ ap (global _) c.lock_cell-m.ensures.is))
    c.if-j-lock_count.false
