use mathlib.Core.Path.{sym, ◌∙◌}
use Rattle.board_rules.specs.BoardLaws.{none_awaits}
use borrow.Author.Rules.{rules}
use Rattle.board_rules.proofs.waiter.Goals as goal

pub returns : goal.returns
returns c = let a = c.args in
    (sym ((none_awaits a.waits.now a.m).0 (sym c.awaited.ensures ∙ c.if-awaited.false)), search rules)
