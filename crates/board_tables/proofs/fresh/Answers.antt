-- `fresh` meets its contract: the test of the tables first.
use mathlib.Core.Path.{sym, ◌∙◌}
use Rattle.board_tables.proofs.EnteredLaws.{fresh_given, fresh_other}
use Rattle.board_tables.proofs.fresh.Goals as goal

pub first_board-requires : goal.first_board-requires
first_board-requires c = sym c.is_given.ensures ∙ c.if-is_given.true

pub returns-then-is_given : goal.returns-then-is_given
returns-then-is_given c = c.made.ensures ∙ rw (fresh_given _ _ (sym c.is_given.ensures ∙ c.if-is_given.true), c.first_board.ensures)

pub returns : goal.returns
returns c = c.not_made.ensures ∙ rw (fresh_other _ _ (sym c.is_given.ensures ∙ c.if-is_given.false), c.no_board.ensures)
