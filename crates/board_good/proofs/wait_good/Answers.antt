use mathlib.Core.Path.{sym, ◌∙◌}
use borrow.Author.Tests.{ne_eqb}
use Rattle.board_good.proofs.wait_good.Goals as goal

pub returns-then-w-eq0 : goal.returns-then-w-eq0
returns-then-w-eq0 c = rw (sym c.wait-w.ensures.0 ∙ c.if-w-eq0.true)

pub returns : goal.returns
returns c = rw (← c.wait-w.ensures.0, c.both.ensures, c.pick.ensures, c.is_global.ensures, c.lists.ensures, c.no-fails.ensures, c.passes.ensures, c.held_by_other-other.ensures, ne_eqb _ _ c.if-w-eq0.false)
