use mathlib.Core.Path.{sym, ◌∙◌}
use borrow.Author.Tests.{eq-eqb, ne_eqb}
use Rattle.board_turns.proofs.task_priority.Goals as goal

pub returns-then-held_global : goal.returns-then-held_global
returns-then-held_global c = rw (sym c.held_global.ensures ∙ c.if-held_global.true)

pub returns-then-m-eq0 : goal.returns-then-m-eq0
returns-then-m-eq0 c = rw (sym c.held_global.ensures ∙ c.if-held_global.false, ← c.held_local-m.ensures, eq-eqb _ _ c.if-m-eq0.true)

pub returns : goal.returns
returns c = rw (c.larger.ensures, c.local_under.ensures.0, c.ceiling.ensures, sym c.held_global.ensures ∙ c.if-held_global.false, ← c.held_local-m.ensures, ne_eqb _ _ c.if-m-eq0.false)
