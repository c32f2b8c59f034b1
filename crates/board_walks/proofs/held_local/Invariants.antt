-- The task holds no local mutex above m.
use mathlib.Core.Bool.{◌&&◌}
use Rattle.laws.specs.RangeLaws.{Down}
use Rattle.board_seats.specs.Seats.{is_local, holds_it}
use Rattle.board_walks.proofs.held_local.Given as goal

abbrev pub invariant-loop-m : goal.invariant-loop-m
invariant-loop-m l = Down 32 (λ m. is_local l.view l.v m && holds_it l.a l.v l.n m) l.m
