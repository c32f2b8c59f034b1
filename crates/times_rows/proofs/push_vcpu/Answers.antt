-- `push_vcpu` meets its contract.
use Rattle.figures.specs.Tabled.{system_in}
use Rattle.search.specs.Row.{pushed}
use Rattle.plan_tables.specs.Layout.{vcpu_row}
use Rattle.figures_slices.specs.CostLaws.{higher_row_is}
use mathlib.Core.Path.{◌∙◌, ap}
use native.Mathlib.Omega.{arith}
use Rattle.times_rows.proofs.push_vcpu.Goals as goal

pub jitter_of-requires : goal.jitter_of-requires
unfolding system_in vcpu_row
jitter_of-requires c = let h = c.requires in let v = c.args.t.now.fit.vcpu_valid _ h.2 in omega (arith, v.budget_in.1, c.vcpu_cell-period.ensures.is, c.vcpu_cell-budget.ensures.is)

pub returns : goal.returns
unfolding system_in vcpu_row
returns c = let h = c.requires in
    c.push_row.ensures
    ∙ ap (pushed _ _)
    (higher_row_is _ _ h.1 c.vcpu_cell-budget.ensures.is c.vcpu_cell-period.ensures.is c.jitter_of.ensures (h.0.starts.at _ h.2).is)
