-- `bit_of` meets its contract.
use borrow.Author.Rules.{rules}
use Rattle.laws.specs.Choice.{when}
use Rattle.board_viewcells.proofs.bit_of.Goals as goal

pub returns-then-t : goal.returns-then-t
unfolding when
returns-then-t c = search rules

pub returns-else-t : goal.returns-else-t
unfolding when
returns-else-t c = search rules
