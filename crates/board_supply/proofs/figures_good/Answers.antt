use Rattle.board_supply.proofs.figures_good.Goals as goal

pub returns : goal.returns
returns c = rw (c.both-2.ensures, c.both.ensures, c.either.ensures)
