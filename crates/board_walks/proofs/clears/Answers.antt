use Rattle.board_walks.proofs.clears.Goals as goal

pub returns : goal.returns
returns c = simp (c.either.ensures, c.ceiling.ensures, c.no.ensures, c.both-bars.ensures, c.held_by_other.ensures, c.is_local.ensures)
