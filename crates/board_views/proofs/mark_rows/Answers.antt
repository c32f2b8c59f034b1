-- `mark_rows` meets its contract: the rows before this one are marked.
use Rattle.figures.specs.Tabled.{system_in}
use Rattle.board_views.specs.SheetLaws.{turned_all, turned_more, turned_none}
use borrow.Author.Rules.{rules}
use Rattle.board_views.proofs.mark_rows.Goals as goal

pub loop-a-init : goal.loop-a-init
loop-a-init c = turned_none

pub loop-a-preserved : goal.loop-a-preserved
loop-a-preserved c =
    turned_more c.loop-a.invariant c.loop-a-test.true (search rules) c.mark_row.ensures

pub returns : goal.returns
unfolding system_in
returns c = turned_all c.loop-a.invariant c.loop-a-test.false
