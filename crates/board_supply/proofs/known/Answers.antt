use Rattle.board_supply.proofs.known.Goals as goal

pub returns : goal.returns
returns c = rw (c.both.ensures, c.has_mutex.ensures, c.has_task.ensures)
