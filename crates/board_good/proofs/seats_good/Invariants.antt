-- Each holder to m is a seat, or none.
use Prim.Native.Nat.{◌-◌}
use Rattle.board_walks.specs.Walks.{seat_good}
use Rattle.board_walks.specs.WalkLaws.{Pass}
use Rattle.board_good.proofs.seats_good.Given as goal

abbrev pub invariant-loop-m : goal.invariant-loop-m
invariant-loop-m l = Pass 32 (λ m. seat_good l.a m) (l.m - 1)
