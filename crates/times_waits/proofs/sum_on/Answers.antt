-- `sum_on` meets its contract.
use Rattle.laws.specs.RowLaws.{summed_all, summed_more, summed_none}
use Rattle.laws.specs.Sums.{sum}
use Rattle.figures_slices.specs.CostLaws.{over_locks}
use native.Mathlib.Omega.{arith}
use Rattle.times_waits.proofs.sum_on.Goals as goal

pub loop-j-init : goal.loop-j-init
loop-j-init c = summed_none

pub section_on-x-requires : goal.section_on-x-requires
section_on-x-requires c = let h = c.requires in (h.0, h.1, h.2, omega (arith, c.loop-j-test.true, c.lock_count-n.ensures.small), omega (arith, c.loop-j-test.true, c.lock_count-n.ensures.is), h.3)

pub loop-j-preserved : goal.loop-j-preserved
loop-j-preserved c = summed_more c.loop-j.invariant c.loop-j-test.true c.section_on-x.ensures

pub returns : goal.returns
returns c = over_locks _ _ (sum _) c.lock_count-n.ensures.is (summed_all 8 c.lock_count-n.ensures.small c.loop-j.invariant c.loop-j-test.false)
