use Rattle.laws.specs.Range.{list_to}
use Rattle.board_rules.specs.Board.{fresh}
use Rattle.board_rules.specs.View.{facts_in}
use Rattle.board_rules.proofs.Board.fresh.Goals as goal

pub returns : goal.returns
unfolding fresh facts_in list_to
returns c = λ p o. rw (c.overruns.ensures, c.budgets.ensures)
