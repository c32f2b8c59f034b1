-- The budgets and overruns of a valid plan are small.
use Rattle.std.specs.Prelude.{ℕ, ◌*◌, ◌≤◌}
use native.Mathlib.Omega.{arith}
use Rattle.std.proofs.Math.Dec.{eqb}
use Rattle.laws.specs.Choice.{when}
use Rattle.laws.specs.Sums.{Each}
use Rattle.laws.specs.SumLaws.{when_le, sum_rises_on, sum_bound, greatest_rises_on, greatest_bound, each_map, first_each}
use Rattle.plan.specs.Limits.{max_period, max_length, most_tasks}
use Rattle.plan.specs.declared.OverrunChoice.{OverrunChoice}
use Rattle.plan.specs.declared.OverrunChoice.TheVariants.{WithOverrun, WithoutOverrun}
use Rattle.plan.specs.declared.Lock.{Lock}
use Rattle.plan.specs.Plan.{Task, Plan, tasks_of}
use Rattle.plan.specs.Valid.{LockValid, TaskValid, Valid}
use Rattle.plan_tables.proofs.GivenLaws.{tasks_valid}
use Rattle.figures.specs.System.{system}
use Rattle.figures.specs.Figures.{vcpu_at, no_vcpu, global_ticks, longest_global, ght, overrun_by, overrun_of, is_section}
use Rattle.board_rules.specs.Facts.{Facts, facts_of}

-- a budget is at most a period, an overrun at most the longest section of each of 64 tasks
pub record Small (F : Facts) : Type 0 where
  pub budget : (v : ℕ) → F.budget v ≤ max_period
  pub overrun : (v : ℕ) → F.overrun v ≤ most_tasks * max_length

module _ (p : Plan) (h : Valid p) where
  budget_small : (v : ℕ) → (vcpu_at (system p) v).budget ≤ max_period
  unfolding vcpu_at
  budget_small v =
      first_each (λ x. eqb x.v v) (λ x. x.budget ≤ max_period) no_vcpu p.vcpus (λ q. omega arith)
      (each_map p.vcpus (λ x w. let a = w.budget_in in let b = w.period_in in omega arith) h.vcpus_valid)

  lock_small : (g : ℕ) (k : Task) (l : Lock) → LockValid p.mutexes p.opens g k.v l → global_ticks (system p) l ≤ max_length
  lock_small g k l w = let a = when_le (is_section (system p) l) l.ticks in let b = w.ticks_in in omega arith

  longest_small : (g : ℕ) (k : Task) → TaskValid p.vcpus p.mutexes p.opens g k → longest_global (system p) k ≤ max_length
  unfolding longest_global
  longest_small g k w =
      let a = greatest_rises_on (global_ticks (system p)) (λ l. max_length) k.locks (each_map k.locks (lock_small g k) w.locks_valid) in
      let b = greatest_bound k.locks max_length {f = λ l. max_length} (λ l. omega arith) in
      omega arith

  ght_small : (v : ℕ) → ght (system p) v ≤ most_tasks * max_length
  unfolding ght
  ght_small v =
      let e : Each (λ k. when (eqb k.v v) (longest_global (system p) k) ≤ max_length) (tasks_of p.sections) =
      tasks_valid h (λ g k w. let a = when_le (eqb k.v v) (longest_global (system p) k) in let b = longest_small g k w in omega arith) in
      let a = sum_rises_on (λ k. when (eqb k.v v) (longest_global (system p) k)) (λ k. max_length) (tasks_of p.sections) e in
      let b = sum_bound (tasks_of p.sections) max_length {f = λ k. max_length} (λ k. omega arith) in
      let c = h.few_tasks in
      omega arith

  overrun_small : (v : ℕ) → overrun_of (system p) v ≤ most_tasks * max_length
  unfolding overrun_of
  overrun_small v = go p.overrun (ght_small v)
    where
      go : (o : OverrunChoice) {g : ℕ} → g ≤ most_tasks * max_length → overrun_by o g ≤ most_tasks * max_length
      go WithOverrun l = l
      go WithoutOverrun l = omega arith

pub small : (p : Plan) → Valid p → Small (facts_of (system p))
unfolding facts_of
small p h = record { budget = budget_small p h; overrun = overrun_small p h }
