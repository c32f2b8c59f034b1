use Rattle.board_good.proofs.task_good.Goals as goal

pub returns : goal.returns
returns c = rw (c.both.ensures, c.holds_good.ensures, c.wait_good.ensures)
