-- `first_board` meets its contract: the board at first of the view that is filled.
use Rattle.board_tables.proofs.first_board.Goals as goal

pub returns : goal.returns
returns c = rw (← c.fill_facts.ensures) (c.fresh.ensures _ _)
