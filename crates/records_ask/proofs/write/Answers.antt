-- The rows that are passed are those of as many records as there are places for.
use Rattle.std.proofs.Common.{◌≡◌, take, ap, ap₂, ◌∙◌}
use Rattle.std.proofs.Math.Seq.{take-append_seam}
use Rattle.plan.specs.Limits.{most_tasks}
use Rattle.plan_tables.specs.Layout.{lent}
use Rattle.records.specs.Sheet.{sheet_rows, cut_to}
use Rattle.listing_asked.specs.Asked.{text_asked, text_left}
use Rattle.records_ask.specs.Wanted.{wanted}
use Rattle.records_ask.specs.FaceLaws.{text_cut, left_cut}
use Rattle.records_ask.proofs.write.Goals as goal

pub returns : goal.returns
returns c =
    let a = c.args in
    let l = c.load-c in
    let e : take l.result l.new.rows ≡ sheet_rows (cut_to most_tasks a.tasks.now) = ap₂ take l.ensures.0 l.ensures.1 ∙ take-append_seam (sheet_rows (cut_to most_tasks a.tasks.now)) _ in
    record {
      value = c.text_in.ensures.0 ∙ ap (λ u. text_asked (wanted a.what) a.r (lent a.vt.now a.mt.now a.ot.now u) a.out.now) e ∙ text_cut a.vt.now a.mt.now a.ot.now a.tasks.now a.r (wanted a.what) a.out.now;
      out_after = c.text_in.ensures.1 ∙ ap (λ u. text_left (wanted a.what) a.r (lent a.vt.now a.mt.now a.ot.now u) a.out.now) e ∙ left_cut a.vt.now a.mt.now a.ot.now a.tasks.now a.r (wanted a.what) a.out.now;
    }
