use mathlib.Core.Path.{sym, ◌∙◌}
use Rattle.board_supply.proofs.next_mark.Goals as goal

pub returns-then-mark : goal.returns-then-mark
returns-then-mark c = rw (sym c.mark.ensures ∙ c.if-mark.true)

pub returns : goal.returns
returns c = rw (c.idle.ensures, sym c.mark.ensures ∙ c.if-mark.false)
