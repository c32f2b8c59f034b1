-- `records_read::read_rows` meets its contract.
use mathlib.Core.Path.{ap, ◌∙◌}
use native.Mathlib.Omega.{arith}
use Rattle.plan_tables.specs.Layout.{Tables, lent}
use Rattle.read_answer.specs.Ample.{ample_answer}
use Rattle.records_read.specs.After.{count_of}
use Rattle.records_read.proofs.ReadLaws.{count_few}
use Rattle.records_read.proofs.read_rows.Goals as goal

pub all_kept-requires : goal.all_kept-requires
all_kept-requires c =
    let a = c.args in
    let t : Tables = lent a.vt.now a.mt.now a.ot.now a.rows.now in
    let n = c.count_of-n in
    let r = c.read_lines-a in
    let e = n.ensures ∙ ap count_of (r.ensures.value ∙ ample_answer a.src.now t c.requires) in
    let k = count_few a.src.now t in
    (omega (arith, e, k), omega (arith, e, k, c.read_lines-a.auto.kt, c.requires.tasks))

pub returns : goal.returns
returns c =
    let a = c.args in
    let e = c.read_lines-a.ensures in record { value = e.value ∙ ample_answer a.src.now (lent a.vt.now a.mt.now a.ot.now a.rows.now) c.requires; vt_after = e.vt_after; mt_after = e.mt_after; ot_after = e.ot_after; rows_after = c.all_kept.ensures ∙ e.kt_after }
