-- The rows that are passed are those of as many records as there are places for.
use Rattle.std.proofs.Common.{◌≡◌, take, ap, ap₂, ◌∙◌}
use Rattle.std.proofs.Math.Seq.{take-append_seam}
use Rattle.plan.specs.Limits.{most_tasks}
use Rattle.plan_tables.specs.Layout.{lent}
use Rattle.records.specs.Sheet.{sheet_rows, cut_to}
use Rattle.records_reply.specs.Replies.{reply_to}
use Rattle.records_ask.specs.FaceLaws.{reply_cut}
use Rattle.records_ask.proofs.reply.Goals as goal

pub returns : goal.returns
returns c =
    let a = c.args in
    let l = c.load-c in
    let e : take l.result l.new.rows ≡ sheet_rows (cut_to most_tasks a.tasks.now) = ap₂ take l.ensures.0 l.ensures.1 ∙ take-append_seam (sheet_rows (cut_to most_tasks a.tasks.now)) _ in
    c.reply_in.ensures ∙ ap (λ u. reply_to a.r (lent a.vt.now a.mt.now a.ot.now u) a.q) e ∙ reply_cut a.vt.now a.mt.now a.ot.now a.tasks.now a.r a.q
