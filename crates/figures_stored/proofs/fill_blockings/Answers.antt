-- `fill_blockings` meets its contract: the rows before this one are stored.
use Rattle.figures_slices.specs.StoredLaws.{values_all, values_more, values_none, tasks_keep}
use lib.ListN.{length-set}
use mathlib.Core.Path.{refl}
use native.Mathlib.Omega.{arith}
use Rattle.figures_stored.proofs.fill_blockings.Goals as goal

pub loop-i-init : goal.loop-i-init
loop-i-init c = (refl, c.requires, values_none)

pub loop-i-preserved : goal.loop-i-preserved
loop-i-preserved c = let h = c.loop-i.invariant in (
  simp length-set h.0,
  tasks_keep _ _ h.1,
  values_more _ h.2 (λ j m. omega arith) (omega (arith, c.loop-i-test.true, h.1.room)) c.local_blocking-x.ensures,
)

pub returns : goal.returns
returns c = let h = c.loop-i.invariant in (h.1, values_all h.2 c.loop-i-test.false)
