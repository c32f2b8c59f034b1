-- `text_of` meets its contract.
use borrow.Author.Rules.{rules}
use Rattle.records_read.specs.Lies.{left_sure}
use Rattle.desk.specs.Told.{left_text}
use Rattle.desk.proofs.text_of.Goals as goal

pub text_or-requires : goal.text_or-requires
text_or-requires c =
    let e = c.read_rows-a.ensures in
    (left_sure _ (record { vcpus = search rules; mutexes = search rules; opens = search rules; tasks = search rules }) e.value e.vt_after e.mt_after e.ot_after e.rows_after, c.requires)

pub returns : goal.returns
returns c =
    let e = c.read_rows-a.ensures in let h = left_text _ (record { vcpus = search rules; mutexes = search rules; opens = search rules; tasks = search rules }) e.value e.vt_after e.mt_after e.ot_after e.rows_after _ _ _
    (c.text_or.ensures.value, c.text_or.ensures.out_after) in record { value = h.0; out_after = h.1 }
