-- The tasks of each VCPU to v meet the conditions.
use Prim.Native.Nat.{◌-◌}
use Rattle.board_walks.specs.Walks.{tasks_good}
use Rattle.board_walks.specs.WalkLaws.{Pass}
use Rattle.board_good.proofs.all_tasks_good.Given as goal

abbrev pub invariant-loop-v : goal.invariant-loop-v
invariant-loop-v l = Pass 16 (λ v. tasks_good l.view l.a l.ws v) (l.v - 1)
