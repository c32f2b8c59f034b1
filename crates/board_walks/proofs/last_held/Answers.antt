-- The task holds no mutex above m.
use native.Mathlib.Omega.{arith}
use Rattle.laws.specs.RangeLaws.{down_none, down_more, down_out, down_all}
use Rattle.board_walks.proofs.last_held.Goals as goal

pub loop-m-init : goal.loop-m-init
loop-m-init c = down_none

pub returns-then-holds : goal.returns-then-holds
returns-then-holds c = down_out c.loop-m.invariant c.loop-m-test.true c.holds.ensures c.if-holds.true

pub loop-m-preserved : goal.loop-m-preserved
loop-m-preserved c = down_more c.loop-m.invariant c.loop-m-test.true c.holds.ensures c.if-holds.false

pub returns : goal.returns
returns c = down_all c.loop-m.invariant (omega arith)
