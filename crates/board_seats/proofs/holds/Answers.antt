use Rattle.board_seats.proofs.holds.Goals as goal

pub returns : goal.returns
returns c = rw (c.holder.ensures, c.seat.ensures.0)
