-- `wait_sum` meets its contract.
use Rattle.figures.specs.Answers.{remote_waits}
use Rattle.laws.specs.RowLaws.{summed_all, summed_more, summed_none}
use Rattle.laws.specs.Sums.{sum}
use Rattle.figures_slices.specs.CostLaws.{over_locks}
use native.Mathlib.Omega.{arith}
use Rattle.answers_sums.proofs.wait_sum.Goals as goal

pub loop-j-init : goal.loop-j-init
unfolding remote_waits
loop-j-init c = summed_none

pub wait_ticks-x-requires : goal.wait_ticks-x-requires
unfolding remote_waits
wait_ticks-x-requires c = let h = c.requires in (h.0, h.1, omega (arith, c.loop-j-test.true, c.lock_count-n.ensures.small), omega (arith, c.loop-j-test.true, c.lock_count-n.ensures.is))

pub loop-j-preserved : goal.loop-j-preserved
unfolding remote_waits
loop-j-preserved c = summed_more c.loop-j.invariant c.loop-j-test.true c.wait_ticks-x.ensures

pub returns : goal.returns
unfolding remote_waits
returns c = over_locks _ _ (sum _) c.lock_count-n.ensures.is (summed_all 8 c.lock_count-n.ensures.small c.loop-j.invariant c.loop-j-test.false)
