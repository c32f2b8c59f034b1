-- The board of five lists, as its events have it where the lists are lent.
use Rattle.std.specs.Prelude.{ℕ, List, Bool}
use Rattle.board_rules.specs.Board.{Board, BoardAnswer, Outcome}

-- left, over, stopped, holder, waits
abbrev pub board_of : List ℕ → List ℕ → List Bool → List ℕ → List ℕ → Board
board_of l o s h w = record { left = l; over = o; stopped = s; holder = h; waits = w }

abbrev pub outcome_of : BoardAnswer → Board → Outcome
outcome_of a b = record { answer = a; board = b }
