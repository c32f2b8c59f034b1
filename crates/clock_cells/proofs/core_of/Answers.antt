-- `core_of` meets its contract: the row of VCPU v has its core, and no row is 0.
use Prim.Native.Nat.{◌+◌}
use Rattle.plan_tables.specs.Layout.{vcpu_row}
use Rattle.clock_cells.specs.FillLaws.{core_is, core_none}
use mathlib.Core.Path.{◌∙◌, ap, sym}
use Rattle.clock_cells.proofs.core_of.Goals as goal

pub returns-then-n-a : goal.returns-then-n-a
unfolding vcpu_row
returns-then-n-a c = sym (core_none _ _ _ _ _ c.vcpu_row-a.ensures c.if-n-a.true)

pub returns : goal.returns
unfolding vcpu_row
returns c = ap (λ x. x + 1) c.vcpu_cell.ensures.is ∙ sym (core_is _ _ _ _ _ c.vcpu_row-a.ensures c.if-n-a.false)
