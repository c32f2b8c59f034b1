use Rattle.board_rules.specs.PlanViews.{facts}
use Rattle.board_rules.proofs.LentLaws.{marked_lent}
use borrow.Author.Rules.{rules}
use Rattle.board_rules.proofs.Board.top_on.Goals as goal

pub top_in-answer-requires : goal.top_in-answer-requires
top_in-answer-requires c = let a = c.args in (search rules, search rules, search rules, λ ws. marked_lent (facts a.plan.now) a.self c.requires a.self.over ws)

pub returns : goal.returns
returns c = c.top_in-answer.ensures c.args.self.waits
