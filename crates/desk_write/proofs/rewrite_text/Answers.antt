-- `desk_write::rewrite_text` meets its contract.
use borrow.Author.Rules.{rules}
use Rattle.records_read.specs.Lies.{left_sure}
use Rattle.desk_write.specs.Rewritten.{large_printed, read_printed}
use Rattle.desk_write.proofs.rewrite_text.Goals as goal

pub returns-then-too_large : goal.returns-then-too_large
returns-then-too_large c = let h = large_printed _ _ c.too_large.ensures c.if-too_large.true c.no_room.ensures (c.refusal_text.ensures.value, c.refusal_text.ensures.out_after) in record { value = h.0; out_after = h.1 }

pub plan_or-requires : goal.plan_or-requires
plan_or-requires c =
    let e = c.read_rows-a.ensures in
    left_sure _ (record { vcpus = search rules; mutexes = search rules; opens = search rules; tasks = search rules }) e.value e.vt_after e.mt_after e.ot_after e.rows_after

pub returns : goal.returns
returns c =
    let e = c.read_rows-a.ensures in let h = read_printed _ (record { vcpus = search rules; mutexes = search rules; opens = search rules; tasks = search rules }) e.value e.vt_after e.mt_after e.ot_after e.rows_after
    c.too_large.ensures c.if-too_large.false _ (c.plan_or.ensures.value, c.plan_or.ensures.out_after) in record { value = h.0; out_after = h.1 }
