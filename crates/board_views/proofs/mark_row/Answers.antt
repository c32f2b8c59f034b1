-- `mark_row` meets its contract: the locks before this one are marked.
use Rattle.plan_tables.specs.Layout.{lock_row}
use Rattle.board_views.specs.SheetLaws.{row_marked, turned_all, turned_more, turned_none}
use Rattle.board_views.specs.Sheets.{marked}
use borrow.Author.Rules.{rules}
use mathlib.Core.Path.{◌∙◌, ap}
use Rattle.board_views.proofs.mark_row.Goals as goal

pub loop-j-init : goal.loop-j-init
loop-j-init c = turned_none

pub loop-j-preserved : goal.loop-j-preserved
unfolding lock_row
loop-j-preserved c =
    turned_more c.loop-j.invariant c.loop-j-test.true (search rules)
    (c.mark.ensures ∙ ap (λ m. marked c.task_cell-v.result c.task_cell-n.result m c.loop-j.view) c.lock_cell-m.ensures.is)

pub returns : goal.returns
returns c =
    row_marked _ _ _ c.task_cell-v.ensures.is c.task_cell-n.ensures.is c.lock_count-e.ensures.is
    (turned_all c.loop-j.invariant c.loop-j-test.false)
