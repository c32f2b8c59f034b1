-- `vcpu_answer` meets its contract: the rows and the base have the demand of equation 5.
use Rattle.figures.specs.Tabled.{system_in}
use Rattle.plan_tables.specs.Layout.{vcpu_row}
use Rattle.figures_slices.specs.CostLaws.{rows_both, start_below, vcpu_found, vcpu_sound}
use mathlib.Core.Path.{◌∙◌}
use native.Mathlib.Omega.{arith}
use Rattle.times_vcpus.proofs.vcpu_answer.Goals as goal

pub vcpu_rows-e-requires : goal.vcpu_rows-e-requires
unfolding system_in vcpu_row
vcpu_rows-e-requires c = let h = c.requires in (h.1, c.is_deferrable-d.ensures, h.2, c.task_rows-n.ensures.0, omega (arith, c.task_rows-n.auto.rows, h.3))

pub least-requires : goal.least-requires
unfolding system_in vcpu_row
least-requires c = let h = c.requires in
    let v = c.vcpu_rows-e in
    let t = c.task_rows-n in (
      omega (arith, v.ensures.0, v.auto.rows, t.auto.rows, h.3),
      omega (arith, c.vcpu_cell.ensures.small),
      start_below _ _ _ c.vcpu_base-base.ensures (h.1.starts.at _ h.2).is,
      vcpu_sound _ _ c.args.t.now.fit (rows_both _ v.ensures.1 t.ensures.1),
    )

pub returns : goal.returns
unfolding system_in vcpu_row
returns c = let h = c.requires in
    c.least.ensures
    ∙ vcpu_found _ _ _ c.is_deferrable-d.ensures c.vcpu_base-base.ensures (h.1.starts.at _ h.2).is c.vcpu_cell.ensures.is
    (rows_both _ c.vcpu_rows-e.ensures.1 c.task_rows-n.ensures.1)
