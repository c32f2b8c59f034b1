use Rattle.board_supply.proofs.mark_good.Goals as goal

pub returns : goal.returns
returns c = rw (c.pick.ensures, c.no.ensures, c.mark.ensures, c.both-must.ensures, c.idle.ensures, c.both-may.ensures, c.both.ensures, c.has_vcpu.ensures, c.figure-empty.ensures, c.under_p-periodic.ensures)
