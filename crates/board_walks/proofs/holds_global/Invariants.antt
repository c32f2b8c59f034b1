-- No mutex to m is a global one that a task of v holds.
use Prim.Native.Nat.{◌-◌}
use Rattle.board_walks.specs.Walks.{global_by}
use Rattle.board_walks.specs.WalkLaws.{Lack}
use Rattle.board_walks.proofs.holds_global.Given as goal

abbrev pub invariant-loop-m : goal.invariant-loop-m
invariant-loop-m l = Lack 32 (λ m. global_by l.view l.a l.v m) (l.m - 1)
