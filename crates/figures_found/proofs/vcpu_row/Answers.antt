-- `vcpu_row` meets its contract: no row before this one is VCPU v.
use native.Mathlib.Omega.{arith}
use Rattle.figures_found.specs.First.{first_here, first_none}
use Rattle.figures.specs.Figures.{no_vcpu}
use Rattle.laws.specs.RowLaws.{lacking_more, lacking_none}
use Rattle.plan_tables.specs.Layout.{vcpu_row}
use borrow.Author.Tests.{eq-eqb, ne_eqb}
use lib.Dec.{eqb}
use mathlib.Core.Path.{◌≡◌, ◌∙◌, ap₂, refl, sym}
use Rattle.figures_found.proofs.vcpu_row.Goals as goal

pub loop-a-init : goal.loop-a-init
unfolding vcpu_row
loop-a-init c = lacking_none

pub returns-then-x-v : goal.returns-then-x-v
unfolding vcpu_row
returns-then-x-v c = first_here no_vcpu c.loop-a.invariant c.loop-a-test.true (sym (ap₂ eqb c.vcpu_cell-x.ensures.is refl) ∙ eq-eqb _ _ c.if-x-v.true)

pub loop-a-preserved : goal.loop-a-preserved
unfolding vcpu_row
loop-a-preserved c = lacking_more c.loop-a.invariant c.loop-a-test.true (ap₂ eqb c.vcpu_cell-x.ensures.is refl) (ne_eqb _ _ c.if-x-v.false)

pub returns : goal.returns
unfolding vcpu_row
returns c =
    let e : c.loop-a.a ≡ c.args.t.now.plan.vcpus = omega arith in
    rw e at (first_none no_vcpu c.loop-a.invariant c.loop-a-test.false)
