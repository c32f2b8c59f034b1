-- `run_bytes` meets its contract.
use borrow.Author.Rules.{rules}
use Rattle.records_read.specs.Lies.{left_sure}
use Rattle.desk_runs.proofs.RanLaws.{ran_large, ran_read}
use Rattle.desk_clock.proofs.run_bytes.Goals as goal

pub returns-then-too_large : goal.returns-then-too_large
returns-then-too_large c = ran_large _ _ c.too_large.ensures c.if-too_large.true

pub run_or-requires : goal.run_or-requires
run_or-requires c =
    let e = c.read_rows-a.ensures in
    left_sure _ (record { vcpus = search rules; mutexes = search rules; opens = search rules; tasks = search rules }) e.value e.vt_after e.mt_after e.ot_after e.rows_after

pub returns : goal.returns
returns c =
    let e = c.read_rows-a.ensures in
    ran_read _ (record { vcpus = search rules; mutexes = search rules; opens = search rules; tasks = search rules }) e.value e.vt_after e.mt_after e.ot_after e.rows_after _
    c.too_large.ensures c.if-too_large.false c.run_or.ensures
