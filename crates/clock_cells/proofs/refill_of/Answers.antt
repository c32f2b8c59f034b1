-- `refill_of` meets its contract: the row of VCPU v has its period, and no row is 0.
use Rattle.figures_found.specs.First.{vcpu_is, vcpu_none}
use Rattle.plan.specs.Plan.{Vcpu}
use Rattle.plan_tables.specs.Layout.{vcpu_row}
use mathlib.Core.Path.{◌∙◌, ap, sym}
use Rattle.clock_cells.proofs.refill_of.Goals as goal

pub returns-then-n-a : goal.returns-then-n-a
unfolding vcpu_row
returns-then-n-a c = ap (λ (x : Vcpu). x.period) (sym (vcpu_none _ _ _ c.vcpu_row-a.ensures _ _ c.if-n-a.true))

pub returns : goal.returns
unfolding vcpu_row
returns c = c.vcpu_cell.ensures.is ∙ ap (λ (x : Vcpu). x.period) (sym (vcpu_is _ _ _ c.vcpu_row-a.ensures _ _ c.if-n-a.false))
