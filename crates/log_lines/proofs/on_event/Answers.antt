-- `log_answers::on_event` meets its contract.
use Rattle.board_rules.specs.PlanViews.{facts}
use Rattle.log_lines.specs.ToldLaws.{on_written, on_unwritten}
use Rattle.log_lines.proofs.on_event.Goals as goal

pub returns-then-ok : goal.returns-then-ok
returns-then-ok c =
    let a = c.args in
    on_written (facts a.plan.now) a.b a.ok a.e _ c.step_on.ensures c.if-ok.true

pub returns-else-ok : goal.returns-else-ok
returns-else-ok c =
    let a = c.args in
    on_unwritten (facts a.plan.now) a.b a.ok a.e _ c.refuse.ensures c.if-ok.false
