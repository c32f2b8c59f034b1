use Rattle.board_puts.proofs.settle.Goals as goal

pub returns : goal.returns
returns c = rw (c.mark_after-mark.ensures, c.sub-i.ensures)
