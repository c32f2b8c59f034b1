-- `wait_late` meets its contract.
use Rattle.figures_slices.specs.Places.{late_read}
use Rattle.plan.specs.Lookup.{global}
use Rattle.plan_tables.specs.Layout.{lock_row}
use mathlib.Core.Path.{◌∙◌, ap, refl}
use native.Mathlib.Omega.{arith}
use Rattle.answers_sums.proofs.wait_late.Goals as goal

pub returns : goal.returns
unfolding lock_row
returns c = let h = c.requires in
    late_read h.0 c.args.i c.args.j (omega (arith, h.1, h.2)) h.3 h.2 (c.is_global.ensures ∙ ap (global _) c.lock_cell-m.ensures.is) refl
