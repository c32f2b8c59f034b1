-- `counts_local` meets its contract.
use Rattle.figures.specs.Figures.{ceiling}
use Rattle.plan.specs.Lookup.{local_to}
use Rattle.plan_tables.specs.Layout.{lock_row, task_row}
use lib.Dec.{leb}
use mathlib.Core.Bool.{◌&&◌}
use mathlib.Core.Path.{◌∙◌, ap, ap₂}
use Rattle.figures_sections.proofs.counts_local.Goals as goal

pub returns : goal.returns
unfolding lock_row task_row
returns c = let m = c.lock_cell-m.ensures.is in
    ap₂ ◌&&◌ (c.is_local.ensures ∙ ap₂ (local_to _) c.task_cell-v.ensures.is m) (ap (leb _) (c.ceiling_of.ensures.is ∙ ap (ceiling _) m))
