-- `step_tested` meets its contract: the test of the board first.
use mathlib.Core.Path.{sym, ◌∙◌}
use Rattle.board_tables.proofs.EnteredLaws.{tested_other}
use Rattle.board_rules.specs.PlanViews.{facts}
use Rattle.board_keeps.specs.Good.{good_marked}
use Rattle.board_keeps.proofs.Runs.{step_on_law}
use Rattle.board_tables.proofs.step_tested.Goals as goal

pub step_on-requires : goal.step_on-requires
step_on-requires c = let a = c.args in
    good_marked (facts a.plan.now) a.b (sym c.good.ensures ∙ c.if-good.true)

pub returns-then-good : goal.returns-then-good
returns-then-good c = c.step_on.ensures ∙ sym (step_on_law _ _ (sym c.good.ensures ∙ c.if-good.true) _)

pub returns : goal.returns
returns c = c.refuse.ensures ∙ sym (tested_other _ _ _ (sym c.good.ensures ∙ c.if-good.false))
