-- `is_lacking` meets its contract: no wait before this one lacks an answer.
use Rattle.figures_slices.specs.Places.{found_locks}
use Rattle.figures.specs.Answers.{lacks_wait}
use Rattle.laws.specs.RowLaws.{lacking_all, lacking_more, lacking_none, lacking_out}
use Rattle.laws.specs.Sums.{any}
use native.Mathlib.Omega.{arith}
use Rattle.answers_sums.proofs.is_lacking.Goals as goal

pub loop-j-init : goal.loop-j-init
unfolding lacks_wait
loop-j-init c = lacking_none

pub wait_late-requires : goal.wait_late-requires
unfolding lacks_wait
wait_late-requires c = let h = c.requires in (h.0, h.1, omega (arith, c.loop-j-test.true, c.lock_count-n.ensures.small), omega (arith, c.loop-j-test.true, c.lock_count-n.ensures.is))

pub returns-then-wait_late : goal.returns-then-wait_late
unfolding lacks_wait
returns-then-wait_late c = found_locks _ _ (any _) c.lock_count-n.ensures.is (lacking_out c.loop-j.invariant c.loop-j-test.true c.wait_late.ensures c.if-wait_late.true)

pub loop-j-preserved : goal.loop-j-preserved
unfolding lacks_wait
loop-j-preserved c = lacking_more c.loop-j.invariant c.loop-j-test.true c.wait_late.ensures c.if-wait_late.false

pub returns : goal.returns
unfolding lacks_wait
returns c = found_locks _ _ (any _) c.lock_count-n.ensures.is (lacking_all c.loop-j.invariant c.loop-j-test.false)
