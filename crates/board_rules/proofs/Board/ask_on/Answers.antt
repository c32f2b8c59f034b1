use borrow.Author.Rules.{rules}
use Rattle.board_rules.proofs.Board.ask_on.Goals as goal

pub ask_in-answer-requires : goal.ask_in-answer-requires
ask_in-answer-requires c = (search rules, search rules, c.requires)

pub returns : goal.returns
returns c = c.ask_in-answer.ensures
