-- `desk_write::rewrite_in` meets its contract.
use Rattle.desk_rooms.proofs.WholeLaws.{whole_wrote, wrote_counted}
use Rattle.desk_write.specs.Rewritten.{rewrite_fits}
use Rattle.desk_write.proofs.rewrite_in.Goals as goal

pub returns : goal.returns
returns c =
    let w = whole_wrote _ _ (rewrite_fits _ c.requires) c.bytes_in.ensures (c.rewrite_text-a.ensures.value, c.rewrite_text-a.ensures.out_after) in record { wrote = w; counted = wrote_counted w }
