-- Each mutex to m is held as the conditions ask.
use Prim.Native.Nat.{◌-◌}
use Rattle.board_walks.specs.Walks.{hold_good}
use Rattle.board_walks.specs.WalkLaws.{Pass}
use Rattle.board_good.proofs.holds_good.Given as goal

abbrev pub invariant-loop-m : goal.invariant-loop-m
invariant-loop-m l = Pass 32 (λ m. hold_good l.view l.a l.ws l.v l.n m) (l.m - 1)
