-- `response_of` meets its contract.
use Prim.Native.Nat.{◌+◌}
use Rattle.figures.specs.Figures.{load, vcpu_at}
use Rattle.figures.specs.Parts.{higher_sum}
use Rattle.figures.specs.Tabled.{system_in}
use Rattle.figures_slices.specs.StoredLaws.{response_is}
use Rattle.plan_tables.specs.Layout.{lock_row, task_row}
use mathlib.Core.Path.{◌∙◌, ap, ap₂, sym}
use native.Mathlib.Omega.{arith}
use Rattle.figures_stored.proofs.response_of.Goals as goal

pub vcpu_of-a-requires : goal.vcpu_of-a-requires
unfolding load higher_sum lock_row task_row system_in
vcpu_of-a-requires c = let h = c.requires in (rw c.task_cell.ensures.is (c.args.t.now.fit.task_vcpu _ h.3))

pub overflow_add-load : goal.overflow_add-load
unfolding load higher_sum lock_row task_row system_in
overflow_add-load c = omega (arith, c.lock_cell.ensures.small, c.higher_sum.ensures.small)

pub response_on-requires : goal.response_on-requires
unfolding load higher_sum lock_row task_row system_in
response_on-requires c = let h = c.requires in
    (h.1, h.2, c.vcpu_of-a.ensures.0, omega (arith, c.lock_cell.ensures.small, c.higher_sum.ensures.small))

pub returns : goal.returns
unfolding load higher_sum lock_row task_row system_in
returns c = response_is _ _ _ _ (ap (vcpu_at _) (sym c.task_cell.ensures.is) ∙ c.vcpu_of-a.ensures.1)
    (ap₂ ◌+◌ c.lock_cell.ensures.is c.higher_sum.ensures.is) c.response_on.ensures
