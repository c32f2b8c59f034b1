-- No mutex to m bars the task.
use Prim.Native.Nat.{◌-◌}
use Rattle.board_walks.specs.Walks.{clears}
use Rattle.board_walks.specs.WalkLaws.{Pass}
use Rattle.board_walks.proofs.passes.Given as goal

abbrev pub invariant-loop-m : goal.invariant-loop-m
invariant-loop-m l = Pass 32 (λ m. clears l.view l.a l.v l.n m) (l.m - 1)
