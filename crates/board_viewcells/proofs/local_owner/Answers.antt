-- `local_owner` meets its contract: m is local to no VCPU above v.
use native.Mathlib.Omega.{arith}
use Rattle.laws.specs.RangeLaws.{down_all, down_more, down_none, down_out}
use Rattle.board_viewcells.proofs.local_owner.Goals as goal

pub loop-v-init : goal.loop-v-init
loop-v-init c = down_none

pub returns-then-is_local : goal.returns-then-is_local
returns-then-is_local c = down_out c.loop-v.invariant c.loop-v-test.true c.is_local.ensures c.if-is_local.true

pub loop-v-preserved : goal.loop-v-preserved
loop-v-preserved c = down_more c.loop-v.invariant c.loop-v-test.true c.is_local.ensures c.if-is_local.false

pub returns : goal.returns
returns c = down_all c.loop-v.invariant (omega arith)
