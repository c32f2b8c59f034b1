-- `fill_vcpus` meets its contract: the rows before this one are stored.
use Rattle.figures.specs.Figures.{ght}
use Rattle.figures.specs.PartLaws.{is_then}
use Rattle.figures.specs.Tabled.{system_in}
use Rattle.figures_slices.specs.StoredLaws.{start_is, vcpus_all, vcpus_more, vcpus_none}
use Rattle.plan_tables.specs.Layout.{vcpu_row}
use mathlib.Core.Path.{◌∙◌, ap, refl}
use native.Mathlib.Omega.{arith}
use Rattle.figures_vcpus.proofs.fill_vcpus.Goals as goal

pub loop-a-init : goal.loop-a-init
unfolding vcpu_row system_in
loop-a-init c = (refl, vcpus_none c.requires)

pub overflow_add-x : goal.overflow_add-x
unfolding vcpu_row system_in
overflow_add-x c = omega (arith, c.overrun_by.ensures.small, c.vcpu_cell-in-loop-a.ensures.small, c.ght_of-g.ensures.small)

pub put_vcpu-requires : goal.put_vcpu-requires
unfolding vcpu_row system_in
put_vcpu-requires c = omega (arith, c.loop-a-test.true, c.loop-a.invariant.1.room, c.args.t.now.fit.vcpus_few)

pub loop-a-preserved : goal.loop-a-preserved
unfolding vcpu_row system_in
loop-a-preserved c = let h = c.loop-a.invariant in
    let g = is_then c.ght_of-g.ensures (ap (ght _) c.vcpu_cell.ensures.is) in (
      c.put_vcpu.auto.vf ∙ h.0,
      rw c.put_vcpu.ensures
          (vcpus_more _ h.1 (omega (arith, c.loop-a-test.true, c.args.t.now.fit.vcpus_few)) g
          (start_is _ _ c.vcpu_cell-in-loop-a.ensures g c.overrun_by.ensures)),
    )

pub returns : goal.returns
unfolding vcpu_row system_in
returns c = vcpus_all c.loop-a.invariant.1 c.loop-a-test.false
