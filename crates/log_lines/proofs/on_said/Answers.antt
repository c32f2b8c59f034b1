-- `log_answers::on_said` meets its contract.
use Rattle.board_rules.specs.PlanViews.{facts}
use Rattle.log_lines.specs.ToldLaws.{on_found, on_nothing}
use Rattle.log_lines.proofs.on_said.Goals as goal

pub returns-in-Some : goal.returns-in-Some
returns-in-Some c =
    let a = c.args in
    on_found (facts a.plan.now) a.b a.s.found a.s.a a.s.b a.s.c a.s.d a.s.e _ _ c.on_kind.ensures c.in-Some.is

pub returns-in-None : goal.returns-in-None
returns-in-None c =
    let a = c.args in
    on_nothing (facts a.plan.now) a.b a.s.found a.s.a a.s.b a.s.c a.s.d a.s.e _ c.refuse.ensures c.in-None.is
