-- `blank_cell` meets its contract.
use Rattle.board_views.specs.SheetLaws.{blank_front, blank_sheets}
use mathlib.Core.Path.{◌∙◌, sym}
use Rattle.board_views.proofs.blank_cell.Goals as goal

pub returns-then-k-lt224 : goal.returns-then-k-lt224
returns-then-k-lt224 c = c.view_cell.ensures ∙ sym (blank_front _ _ c.if-k-lt224.true)

pub returns-else-k-lt224 : goal.returns-else-k-lt224
returns-else-k-lt224 c = sym (blank_sheets _ _ c.if-k-lt224.false)
