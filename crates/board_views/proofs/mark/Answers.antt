-- `mark` meets its contract.
use Rattle.board_views.specs.SheetLaws.{names, marked_in, marked_out}
use mathlib.Core.Path.{◌∙◌, sym}
use Rattle.board_views.proofs.mark.Goals as goal

pub place_of-k-requires : goal.place_of-k-requires
place_of-k-requires c = names _ _ _ (sym c.in_sheets.ensures ∙ c.if-in_sheets.true)

pub returns-then-in_sheets : goal.returns-then-in_sheets
returns-then-in_sheets c = marked_in _ _ _ _ (sym c.in_sheets.ensures ∙ c.if-in_sheets.true) c.place_of-k.ensures.is

pub returns-else-in_sheets : goal.returns-else-in_sheets
returns-else-in_sheets c = marked_out _ _ _ _ (sym c.in_sheets.ensures ∙ c.if-in_sheets.false)
