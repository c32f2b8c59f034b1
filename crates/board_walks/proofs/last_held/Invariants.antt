-- The task holds no mutex above m.
use Rattle.laws.specs.RangeLaws.{Down}
use Rattle.board_seats.specs.Seats.{holds_it}
use Rattle.board_walks.proofs.last_held.Given as goal

abbrev pub invariant-loop-m : goal.invariant-loop-m
invariant-loop-m l = Down 32 (λ m. holds_it l.a l.v l.n m) l.m
