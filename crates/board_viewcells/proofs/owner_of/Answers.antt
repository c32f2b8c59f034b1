-- `owner_of` meets its contract.
use Rattle.board_viewcells.specs.OwnerLaws.{owner_global, owner_local}
use mathlib.Core.Path.{◌∙◌, sym}
use Rattle.board_viewcells.proofs.owner_of.Goals as goal

pub returns-then-is_global : goal.returns-then-is_global
returns-then-is_global c = sym (owner_global _ _ (sym c.is_global.ensures ∙ c.if-is_global.true))

pub returns-else-is_global : goal.returns-else-is_global
returns-else-is_global c = c.local_owner.ensures ∙ sym (owner_local _ _ (sym c.is_global.ensures ∙ c.if-is_global.false))
