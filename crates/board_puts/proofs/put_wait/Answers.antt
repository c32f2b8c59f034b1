use Rattle.board_puts.proofs.put_wait.Goals as goal

pub returns : goal.returns
returns c = rw (c.sub-i.ensures, c.seat.ensures.0)
