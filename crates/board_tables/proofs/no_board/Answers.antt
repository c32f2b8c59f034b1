-- `no_board` meets its contract.
use mathlib.Core.Path.{refl}
use Rattle.laws.specs.Range.{list_to}
use Rattle.board_tables.specs.Entered.{no_board}
use Rattle.board_tables.proofs.no_board.Goals as goal

pub returns : goal.returns
unfolding no_board list_to
returns c = refl
