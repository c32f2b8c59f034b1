-- The demands of equations 5, 6 and 11 never fall as their window grows and never go below their start, for every plan.
use Rattle.std.specs.Prelude.{ℕ, ◌+◌, ◌*◌, ◌≤◌, ◌≡◌, refl}
use Rattle.std.proofs.Common.{arith, add-zero}
use Rattle.laws.specs.Choice.{when}
use Rattle.laws.specs.Sums.{up, sum}
use Rattle.laws.specs.SumLaws.{rise, sum_rises, when_rises}
use Rattle.search.specs.Search.{Demand}
use Rattle.plan.specs.declared.Policy.{Policy}
use Rattle.plan.specs.declared.Policy.TheVariants.{Periodic, Deferrable}
use Rattle.plan.specs.Plan.{Vcpu, Task}
use Rattle.figures.specs.System.{System}
use Rattle.figures.specs.Figures.{ght, lower_on, higher_on, jitter, blocking_by, blocking, vcpu_start, vcpu_demand, wait_start, wait_demand, lengths, task_demand}

-- blocking rises with the window
blocking_by_rises : (q : Policy) (p : System) (v : ℕ) {t u : ℕ} → t ≤ u → blocking_by q p v t ≤ blocking_by q p v u
unfolding blocking_by
blocking_by_rises Periodic p v h = omega arith
blocking_by_rises Deferrable p v h = search rise depth 9

pub blocking_rises : (p : System) (x : Vcpu) {t u : ℕ} → t ≤ u → blocking p x t ≤ blocking p x u
unfolding blocking
blocking_rises p x h = sum_rises p.vcpus (λ y. when_rises _ (blocking_by_rises p.policy p y.v h))

-- equation 5
pub vcpu_demand_law : (p : System) (x : Vcpu) → Demand (vcpu_demand p x) (vcpu_start p x)
unfolding vcpu_demand
vcpu_demand_law p x =
    record {
      rises = λ t u h. let b = blocking_rises p x h in search (rise, b) depth 9;
      above = λ t. omega arith;
    }

-- equation 11
pub wait_demand_law : (p : System) (v m : ℕ) → Demand (wait_demand p v m) (wait_start p v m)
unfolding wait_demand
wait_demand_law p v m = record { rises = λ t u h. search rise depth 9; above = λ t. omega arith }

-- equation 6, whatever the waits are
pub task_demand_law : (p : System) (waits : Task → ℕ) (k : Task) → Demand (task_demand p waits k) (lengths k)
unfolding task_demand
task_demand_law p waits k = record { rises = λ t u h. search rise depth 9; above = λ t. omega arith }

-- J is 0 under P
pub no_jitter : (q : Policy) (y : Vcpu) → q ≡ Periodic → jitter q y ≡ 0
no_jitter q y e = rw e refl

-- equations 2 and 5 of a periodic server: no jitter, and lower VCPUs block by their ght alone
pub periodic_demand :
    (p : System) (x : Vcpu) (t : ℕ) →
    p.policy ≡ Periodic →
    vcpu_demand p x t
    ≡ vcpu_start p x + sum (λ y. when (lower_on x y) (ght p y.v)) p.vcpus
    + sum (λ y. when (higher_on x y) (up t y.period * vcpu_start p y)) p.vcpus
unfolding vcpu_demand blocking blocking_by
periodic_demand p x t e = rw (e, blocking_by) (simp add-zero)
