-- `mark_rows` meets its contract: the rows before this one are marked.
use Rattle.plan_tables.specs.Layout.{task_row}
use Rattle.board_views.specs.SheetLaws.{Turned}
use Rattle.board_views.specs.Sheets.{marked_by}
use Rattle.board_views.proofs.mark_rows.Given as goal

abbrev pub invariant-loop-a : goal.invariant-loop-a
invariant-loop-a l = Turned marked_by (task_row l.t.tasks.now) l.e l.initial.view l.view l.a
