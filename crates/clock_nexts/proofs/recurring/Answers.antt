use Rattle.clock_nexts.specs.Gather.{gathered_first, gathered_more, gathered_all}
use native.Mathlib.Omega.{arith}
use Rattle.clock_nexts.proofs.recurring.Goals as goal

pub loop-i-init : goal.loop-i-init
loop-i-init c = gathered_first _

pub overflow_add-i-in-loop-i : goal.overflow_add-i-in-loop-i
overflow_add-i-in-loop-i c = let t = c.loop-i-test.true in omega arith

pub gather-s-requires : goal.gather-s-requires
gather-s-requires c = let g = c.loop-i.invariant in let t = c.loop-i-test.true in (omega arith, omega arith, g.is_set)

pub overflow_add-i : goal.overflow_add-i
overflow_add-i c = let t = c.loop-i-test.true in omega arith

pub loop-i-preserved : goal.loop-i-preserved
loop-i-preserved c = gathered_more c.loop-i.invariant c.loop-i-test.true c.at-p.ensures c.gather-s.ensures

pub returns : goal.returns
returns c = let l = c.loop-i-test.false in gathered_all c.loop-i.invariant (omega arith)
