use mathlib.Core.Path.{sym, ◌∙◌}
use Rattle.board_good.proofs.hold_good.Goals as goal

pub returns-then-holds : goal.returns-then-holds
returns-then-holds c = rw (c.both-then-holds.ensures, c.both.ensures, c.lists.ensures, c.last_held.ensures, c.wait-free.ensures.0, sym c.holds.ensures ∙ c.if-holds.true)

pub returns : goal.returns
returns c = rw (sym c.holds.ensures ∙ c.if-holds.false)
