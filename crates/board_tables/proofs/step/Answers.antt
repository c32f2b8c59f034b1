-- `step` meets its contract: the test of the tables first.
use mathlib.Core.Path.{sym, ◌∙◌}
use Rattle.board_tables.proofs.EnteredLaws.{step_given, step_other}
use Rattle.board_tables.proofs.step.Goals as goal

pub step_given-requires : goal.step_given-requires
step_given-requires c = sym c.is_given.ensures ∙ c.if-is_given.true

pub returns-then-is_given : goal.returns-then-is_given
returns-then-is_given c = c.step_given.ensures ∙ sym (step_given _ _ (sym c.is_given.ensures ∙ c.if-is_given.true) _ _)

pub returns : goal.returns
returns c = c.refuse.ensures ∙ sym (step_other _ _ (sym c.is_given.ensures ∙ c.if-is_given.false) _ _)
