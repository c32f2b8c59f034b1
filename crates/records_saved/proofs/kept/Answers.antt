-- Kept as records and copied back, the rows are as they were.
use Rattle.std.proofs.Common.{ap, ◌∙◌, min}
use Rattle.plan.specs.Limits.{most_tasks}
use Rattle.plan_tables.specs.Layout.{over}
use Rattle.records.specs.Sheet.{sheet_rows, cut_to, saved}
use Rattle.records.specs.Blank.{kept_rows}
use Rattle.records_saved.proofs.kept.Goals as goal

pub returns : goal.returns
returns c =
    let t = c.args.rows.now in
    let n = c.args.n in
    c.load.ensures.1 ∙ ap (λ ks. over (sheet_rows (cut_to (min n most_tasks) ks)) t) (c.save.ensures ∙ ap (λ ks. saved ks t n) c.no_tasks-tasks.ensures)
    ∙ kept_rows t n c.requires.0 c.requires.1
