-- Each VCPU to v meets the conditions.
use Prim.Native.Nat.{◌-◌}
use Rattle.board_walks.specs.WalkLaws.{Pass}
use Rattle.board_reserves.specs.Supplies.{vcpu_good_at}
use Rattle.board_supply.proofs.vcpus_good.Given as goal

abbrev pub invariant-loop-v : goal.invariant-loop-v
invariant-loop-v l = Pass 16 (λ v. vcpu_good_at l.policy l.view l.left l.over l.stopped l.holder v) (l.v - 1)
