-- Each task of v to n meets the conditions.
use Prim.Native.Nat.{◌-◌}
use Rattle.board_walks.specs.Walks.{task_good}
use Rattle.board_walks.specs.WalkLaws.{Pass}
use Rattle.board_good.proofs.tasks_good.Given as goal

abbrev pub invariant-loop-n : goal.invariant-loop-n
invariant-loop-n l = Pass 8 (λ n. task_good l.view l.a l.ws l.v n) (l.n - 1)
