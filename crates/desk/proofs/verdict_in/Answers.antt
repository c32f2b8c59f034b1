-- `verdict_in` meets its contract.
use Rattle.desk_rooms.proofs.WholeLaws.{whole_wrote, wrote_counted, verdict_fits}
use Rattle.desk.proofs.verdict_in.Goals as goal

pub returns : goal.returns
returns c =
    let w = whole_wrote _ _ (verdict_fits _ c.requires) c.bytes_in.ensures (c.verdict_text-a.ensures.value, c.verdict_text-a.ensures.out_after) in record { wrote = w; counted = wrote_counted w }
