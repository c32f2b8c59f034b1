-- `mark_row` meets its contract: the locks before this one are marked.
use Rattle.plan.specs.declared.Lock.{Lock}
use Rattle.plan_tables.specs.Layout.{lock_row}
use Rattle.board_views.specs.SheetLaws.{Turned}
use Rattle.board_views.specs.Sheets.{marked}
use Rattle.board_views.proofs.mark_row.Given as goal

abbrev pub invariant-loop-j : goal.invariant-loop-j
invariant-loop-j l = Turned (λ (k : Lock). marked l.v l.n k.m) (lock_row l.t.tasks.now l.a) l.e l.initial.view l.view l.j
