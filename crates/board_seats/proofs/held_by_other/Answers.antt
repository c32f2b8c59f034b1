use Rattle.board_seats.proofs.held_by_other.Goals as goal

pub returns : goal.returns
returns c = simp (c.both.ensures, c.no-2.ensures, c.holds.ensures, c.no.ensures, c.holder.ensures)
