-- The task holds no global mutex to m.
use Prim.Native.Nat.{◌-◌}
use mathlib.Core.Bool.{◌&&◌}
use Rattle.board_seats.specs.Seats.{is_global, holds_it}
use Rattle.board_walks.specs.WalkLaws.{Lack}
use Rattle.board_walks.proofs.held_global.Given as goal

abbrev pub invariant-loop-m : goal.invariant-loop-m
invariant-loop-m l = Lack 32 (λ m. is_global l.view m && holds_it l.a l.v l.n m) (l.m - 1)
