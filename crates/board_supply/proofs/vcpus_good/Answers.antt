-- Each VCPU to v meets the conditions.
use native.Mathlib.Omega.{arith}
use Rattle.board_walks.specs.WalkLaws.{pass_none, pass_next, pass_here, pass_all}
use mathlib.Core.Bool.{not}
use mathlib.Core.Path.{ap}
use Rattle.board_supply.proofs.vcpus_good.Goals as goal

pub loop-v-init : goal.loop-v-init
loop-v-init c = pass_none

pub returns-then-not-vcpu_good : goal.returns-then-not-vcpu_good
returns-then-not-vcpu_good c =
    pass_here c.loop-v.invariant c.loop-v.auto.v c.loop-v-test.true c.vcpu_good.ensures (ap not c.if-not-vcpu_good.true)

pub loop-v-preserved : goal.loop-v-preserved
loop-v-preserved c =
    pass_next c.loop-v.invariant c.loop-v.auto.v c.loop-v-test.true c.vcpu_good.ensures (ap not c.if-not-vcpu_good.false)

pub returns : goal.returns
returns c = pass_all c.loop-v.invariant (omega arith)
