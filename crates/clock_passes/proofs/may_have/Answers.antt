-- `clock_passes::may_have` meets its contract.
use mathlib.Core.Path.{sym, ◌∙◌}
use Rattle.clock_passes.proofs.may_have.Goals as goal

pub returns-then-is_global : goal.returns-then-is_global
returns-then-is_global c = rw (sym c.is_global.ensures ∙ c.if-is_global.true, c.holder.ensures)

pub returns : goal.returns
returns c = rw (sym c.is_global.ensures ∙ c.if-is_global.false, c.passes.ensures)
