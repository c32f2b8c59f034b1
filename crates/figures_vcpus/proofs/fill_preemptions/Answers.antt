-- `fill_preemptions` meets its contract: the rows before this one are stored.
use Rattle.figures_slices.specs.StoredLaws.{values_all, values_more, values_none, vcpus_keep}
use lib.ListN.{length-set}
use mathlib.Core.Path.{refl}
use native.Mathlib.Omega.{arith}
use Rattle.figures_vcpus.proofs.fill_preemptions.Goals as goal

pub loop-a-init : goal.loop-a-init
loop-a-init c = (refl, c.requires, values_none)

pub loop-a-preserved : goal.loop-a-preserved
loop-a-preserved c = let h = c.loop-a.invariant in (
  simp length-set h.0,
  vcpus_keep _ _ h.1,
  values_more _ h.2 (λ j m. omega arith) (omega (arith, c.loop-a-test.true, h.1.room, c.args.t.now.fit.vcpus_few)) c.preemption_of-x.ensures,
)

pub returns : goal.returns
returns c = let h = c.loop-a.invariant in (h.1, values_all h.2 c.loop-a-test.false)
