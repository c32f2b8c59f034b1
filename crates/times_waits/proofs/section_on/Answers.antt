-- `section_on` meets its contract.
use Rattle.figures.specs.PartLaws.{is_in, is_out}
use Rattle.figures_slices.specs.StoredLaws.{response_at}
use Rattle.plan_tables.specs.Layout.{lock_row}
use Rattle.figures_slices.specs.CostLaws.{section_is}
use borrow.Author.Tests.{eq-eqb, ne_eqb}
use lib.Dec.{eqb}
use mathlib.Core.Path.{◌∙◌, ap₂, refl, sym}
use Rattle.times_waits.proofs.section_on.Goals as goal

pub returns-then-lock_cell-m : goal.returns-then-lock_cell-m
unfolding lock_row
returns-then-lock_cell-m c = let h = c.requires in
    let e = c.lock_cell.ensures.is in
    is_in (ap₂ eqb e refl) (eq-eqb _ _ c.if-lock_cell-m.true) (section_is _ _ _ _ (response_at _ _ _ _ h.0 h.2 h.3) h.4 h.5 (sym e ∙ c.if-lock_cell-m.true))

pub returns-else-lock_cell-m : goal.returns-else-lock_cell-m
unfolding lock_row
returns-else-lock_cell-m c = is_out _ _ (ap₂ eqb c.lock_cell.ensures.is refl) (ne_eqb _ _ c.if-lock_cell-m.false)
