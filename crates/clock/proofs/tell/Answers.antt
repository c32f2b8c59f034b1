-- The tables have room for every plan, and the buffer is as long as it is written.
use Rattle.std.proofs.Common.{ℕ, lit≤}
use Rattle.std.proofs.lemmas.List.{length-replicate}
use Rattle.records_read.specs.Lies.{left_sure}
use Rattle.clock.proofs.tell.Goals as goal

pub tell_or-requires : goal.tell_or-requires
tell_or-requires g c =
    let e = c.read_rows-a.ensures in (
      left_sure _ (record { vcpus = lit≤ tt; mutexes = lit≤ tt; opens = lit≤ tt; tasks = lit≤ tt }) e.value e.vt_after e.mt_after e.ot_after e.rows_after,
      length-replicate {0} {A = ℕ} 131072 0,
    )
