-- `board_in` meets its contract.
use Rattle.desk_rooms.proofs.WholeLaws.{whole_wrote, wrote_counted, board_fits}
use Rattle.desk.proofs.board_in.Goals as goal

pub returns : goal.returns
returns c =
    let w = whole_wrote _ _ (board_fits _ _ c.requires) c.bytes_in.ensures (c.board_text-a.ensures.value, c.board_text-a.ensures.out_after) in record { wrote = w; counted = wrote_counted w }
