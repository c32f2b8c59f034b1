use Rattle.board_supply.proofs.mark_by.Goals as goal

pub returns : goal.returns
returns c = rw (c.either.ensures, c.mark.ensures, c.both-due.ensures, c.both.ensures, c.no.ensures, c.under_p.ensures, c.figure-empty.ensures)
