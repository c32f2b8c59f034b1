-- The tasks of each VCPU to v meet the conditions.
use native.Mathlib.Omega.{arith}
use Rattle.board_walks.specs.WalkLaws.{pass_none, pass_next, pass_here, pass_all}
use mathlib.Core.Bool.{not}
use mathlib.Core.Path.{ap}
use Rattle.board_good.proofs.all_tasks_good.Goals as goal

pub loop-v-init : goal.loop-v-init
loop-v-init c = pass_none

pub returns-then-not-tasks_good : goal.returns-then-not-tasks_good
returns-then-not-tasks_good c = pass_here c.loop-v.invariant c.loop-v.auto.v c.loop-v-test.true c.tasks_good.ensures (ap not c.if-not-tasks_good.true)

pub loop-v-preserved : goal.loop-v-preserved
loop-v-preserved c = pass_next c.loop-v.invariant c.loop-v.auto.v c.loop-v-test.true c.tasks_good.ensures (ap not c.if-not-tasks_good.false)

pub returns : goal.returns
returns c = pass_all c.loop-v.invariant (omega arith)
