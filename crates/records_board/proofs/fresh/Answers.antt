-- The rows that are passed are those of as many records as there are places for.
use Rattle.std.proofs.Common.{◌≡◌, take, ap, ap₂, ◌∙◌}
use Rattle.std.proofs.Math.Seq.{take-append_seam}
use Rattle.plan.specs.Limits.{most_tasks}
use Rattle.plan_tables.specs.Layout.{lent}
use Rattle.records.specs.Sheet.{sheet_rows, cut_to}
use Rattle.board_tables.specs.Entered.{fresh_for}
use Rattle.records_board.specs.StepLaws.{fresh_cut}
use Rattle.records_board.proofs.fresh.Goals as goal

pub returns : goal.returns
returns c =
    let a = c.args in
    let l = c.load-c in
    let e : take l.result l.new.rows ≡ sheet_rows (cut_to most_tasks a.tasks.now) = ap₂ take l.ensures.0 l.ensures.1 ∙ take-append_seam (sheet_rows (cut_to most_tasks a.tasks.now)) _ in
    c.fresh_in.ensures ∙ ap (λ u. fresh_for a.r (lent a.vt.now a.mt.now a.ot.now u)) e ∙ fresh_cut a.vt.now a.mt.now a.ot.now a.tasks.now a.r
