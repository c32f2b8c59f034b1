-- `log_answers::on_line` meets its contract.
use Rattle.board_rules.specs.PlanViews.{facts}
use Rattle.log_lines.specs.ToldLaws.{on_said_law}
use Rattle.log_lines.proofs.on_line.Goals as goal

pub returns : goal.returns
returns c =
    let a = c.args in
    on_said_law (facts a.plan.now) a.b a.src.now _ _ c.said_of-s.ensures c.on_said.ensures
