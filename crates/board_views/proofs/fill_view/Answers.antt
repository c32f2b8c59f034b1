-- `fill_view` meets its contract.
use Rattle.board_views.specs.SheetLaws.{marked_view}
use Rattle.board_views.proofs.fill_view.Goals as goal

pub returns : goal.returns
returns c = marked_view c.fill_blank.ensures c.mark_rows.ensures
