-- Each task of v to n meets the conditions.
use native.Mathlib.Omega.{arith}
use Rattle.board_walks.specs.WalkLaws.{pass_none, pass_next, pass_here, pass_all}
use mathlib.Core.Bool.{not}
use mathlib.Core.Path.{ap}
use Rattle.board_good.proofs.tasks_good.Goals as goal

pub loop-n-init : goal.loop-n-init
loop-n-init c = pass_none

pub returns-then-not-task_good : goal.returns-then-not-task_good
returns-then-not-task_good c = pass_here c.loop-n.invariant c.loop-n.auto.n c.loop-n-test.true c.task_good.ensures (ap not c.if-not-task_good.true)

pub loop-n-preserved : goal.loop-n-preserved
loop-n-preserved c = pass_next c.loop-n.invariant c.loop-n.auto.n c.loop-n-test.true c.task_good.ensures (ap not c.if-not-task_good.false)

pub returns : goal.returns
returns c = pass_all c.loop-n.invariant (omega arith)
