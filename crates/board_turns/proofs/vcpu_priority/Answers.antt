use mathlib.Core.Path.{sym, ◌∙◌}
use Rattle.board_turns.proofs.vcpu_priority.Goals as goal

pub returns-then-holds_global : goal.returns-then-holds_global
returns-then-holds_global c = rw (sym c.holds_global.ensures ∙ c.if-holds_global.true)

pub returns : goal.returns
returns c = rw (sym c.holds_global.ensures ∙ c.if-holds_global.false)
