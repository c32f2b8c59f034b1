-- The columns to n are filled.
use Rattle.board_seats.specs.Seats.{wait_at}
use Rattle.board_walks.specs.WalkLaws.{Filled}
use Rattle.board_walks.proofs.row.Given as goal

abbrev pub invariant-loop-n : goal.invariant-loop-n
invariant-loop-n l = Filled 0 8 (λ n. wait_at l.a l.v n) l.row l.n
