-- `fill_sums` meets its contract: the waits before this one are stored.
use Rattle.figures_slices.specs.StoredLaws.{values_all, values_more, values_none}
use lib.ListN.{length-set}
use mathlib.Core.Path.{refl}
use native.Mathlib.Omega.{arith}
use Rattle.answers_sums.proofs.fill_sums.Goals as goal

pub loop-i-init : goal.loop-i-init
loop-i-init c = (refl, values_none)

pub bounds-ws-i : goal.bounds-ws-i
bounds-ws-i c = let h = c.requires in omega (arith, c.loop-i.invariant.0, h.1, c.args.t.now.fit.tasks_few, c.loop-i-test.true)

pub loop-i-preserved : goal.loop-i-preserved
loop-i-preserved c = let h = c.requires in let j = c.loop-i.invariant in (
  simp length-set j.0,
  values_more _ j.1 (λ k m. omega arith) (omega (arith, j.0, h.1, c.args.t.now.fit.tasks_few, c.loop-i-test.true)) c.wait_sum-x.ensures,
)

pub returns : goal.returns
returns c = values_all c.loop-i.invariant.1 c.loop-i-test.false
