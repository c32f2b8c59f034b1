-- `fill_vcpus` meets its contract: the answers before this one are written.
use Rattle.figures_slices.specs.Filled.{answer_row}
use Rattle.figures_slices.specs.FilledLaws.{filled_more, filled_none}
use Rattle.figures_slices.specs.Places.{vcpus_over}
use Rattle.figures.specs.Tabled.{system_in}
use Rattle.laws.specs.Rows.{rows}
use mathlib.Core.Path.{◌∙◌, ap, refl}
use native.Mathlib.Omega.{arith}
use Rattle.answers_waits.proofs.fill_vcpus.Goals as goal

pub loop-a-init : goal.loop-a-init
unfolding system_in
loop-a-init c = (refl, filled_none)

pub vcpu_answer-x-requires : goal.vcpu_answer-x-requires
unfolding system_in
vcpu_answer-x-requires c = let h = c.requires in (h.0, h.1, c.loop-a-test.true, omega (arith, c.loop-a.invariant.0, h.2))

pub put_answer-requires : goal.put_answer-requires
unfolding system_in
put_answer-requires c = let h = c.requires in omega (arith, c.loop-a.invariant.1.same, c.loop-a-test.true, h.3, c.args.t.now.fit.vcpus_few)

pub loop-a-preserved : goal.loop-a-preserved
unfolding system_in
loop-a-preserved c = let h = c.requires in let i = c.loop-a.invariant in (
  c.vcpu_answer-x.auto.rows ∙ i.0,
  filled_more _ i.1 c.loop-a-test.true c.put_answer.ensures (ap answer_row c.vcpu_answer-x.ensures) (omega (arith, h.3, c.args.t.now.fit.vcpus_few)),
)

pub returns : goal.returns
unfolding system_in
returns c = vcpus_over _ _ refl c.loop-a.invariant.1 c.loop-a-test.false
