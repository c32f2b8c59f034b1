use Rattle.board_rules.specs.PlanViews.{facts}
use Rattle.board_rules.proofs.LentLaws.{marked_lent}
use borrow.Author.Rules.{rules}
use Rattle.board_rules.proofs.Board.free_on.Goals as goal

pub free_in-answer-requires : goal.free_in-answer-requires
free_in-answer-requires c = let a = c.args in (search rules, search rules, λ os. marked_lent (facts a.plan.now) a.self c.requires os a.self.waits)

pub returns : goal.returns
returns c = c.free_in-answer.ensures c.args.self.over
