-- `fill_waits` meets its contract: the answers before this one are written.
use Rattle.figures_slices.specs.FilledLaws.{filled_more, filled_none}
use Rattle.figures_slices.specs.Places.{waits_over}
use Rattle.figures.specs.Tabled.{system_in}
use Rattle.laws.specs.Rows.{rows}
use mathlib.Core.Path.{◌∙◌, refl}
use native.Mathlib.Omega.{arith}
use Rattle.answers_waits.proofs.fill_waits.Goals as goal

pub loop-k-init : goal.loop-k-init
unfolding system_in
loop-k-init c = (refl, filled_none)

pub put_wait-requires : goal.put_wait-requires
unfolding system_in
put_wait-requires c = let h = c.requires in let i = c.loop-k.invariant in (h.0, h.1, c.loop-k-test.true, omega (arith, i.0, h.2), omega (arith, i.1.same, h.3), i.1.at)

pub loop-k-preserved : goal.loop-k-preserved
unfolding system_in
loop-k-preserved c = let h = c.requires in let i = c.loop-k.invariant in (
  c.put_wait.auto.rows ∙ i.0,
  filled_more _ i.1 c.loop-k-test.true c.put_wait.ensures refl (omega (arith, h.3)),
)

pub returns : goal.returns
unfolding system_in
returns c = let h = c.requires in let i = c.loop-k.invariant in (
  waits_over _ _ _ refl c.args.t.now.fit.task_locks i.1 c.loop-k-test.false,
  record { room = omega (arith, i.1.same, h.3); at = λ k l. i.1.at k (omega (arith, l, c.loop-k-test.false)) },
)
