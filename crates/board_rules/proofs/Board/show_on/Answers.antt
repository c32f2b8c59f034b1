use mathlib.Core.Path.{sym, ◌∙◌}
use borrow.Author.Tests.{not-true, not-false}
use Rattle.board_reserves.specs.SupplyLaws.{task_range}
use Rattle.board_rules.specs.BoardLaws.{show_unknown, show_known}
use mathlib.Core.Bool.{not}
use mathlib.Core.Path.{ap}
use Rattle.board_rules.proofs.Board.show_on.Goals as goal

pub returns-then-not-has_task : goal.returns-then-not-has_task
returns-then-not-has_task c = let a = c.args in
    rw (show_unknown a.plan.now.policy a.plan.now.overrun a.plan.now.view.now a.self a.v a.n (sym c.has_task.ensures ∙ not-true _ (ap not c.if-not-has_task.true)))

pub task_priority-task-requires : goal.task_priority-task-requires
task_priority-task-requires c = let a = c.args in
    let k = task_range a.plan.now.view.now a.v a.n (sym c.has_task.ensures ∙ not-false _ (ap not c.if-not-has_task.false)) in (k.high_v, k.high_n)

pub vcpu_priority-vcpu-requires : goal.vcpu_priority-vcpu-requires
vcpu_priority-vcpu-requires c = let a = c.args in
    (task_range a.plan.now.view.now a.v a.n (sym c.has_task.ensures ∙ not-false _ (ap not c.if-not-has_task.false))).high_v

pub returns : goal.returns
returns c = let a = c.args in
    rw (show_known a.plan.now.policy a.plan.now.overrun a.plan.now.view.now a.self a.v a.n (sym c.has_task.ensures ∙ not-false _ (ap not c.if-not-has_task.false)), c.vcpu_priority-vcpu.ensures, c.task_priority-task.ensures)
