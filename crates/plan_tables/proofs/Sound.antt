-- What tables that pass the test give code: counts, room, and small numbers.
use Rattle.std.specs.Prelude.{ℕ, zero, suc, ◌+◌, ◌-◌, ◌*◌, ◌≤◌, ◌<◌, max, ◌≡◌, refl, List, [], ◌∷◌, ◌++◌, true, length, get_or}
use Rattle.std.proofs.Common.{⊎_elim, arith}
use Rattle.laws.specs.Sums.{flat, Each}
use Rattle.laws.specs.SumLaws.{each_append, each_map, each_flat}
use Rattle.laws.specs.RowLaws.{each_row}
use Rattle.plan.specs.Limits.{max_v, max_guest, max_m, max_n, max_period, max_length, max_tasks, max_locks}
use Rattle.plan.specs.declared.Lock.{Lock}
use Rattle.plan.specs.Plan.{Vcpu, Owner, Global, Local, Mutex, Open, Task, Plan, tasks_of}
use Rattle.plan.specs.Valid.{In, PairRises, VcpuValid, OwnerValid, MutexValid, LockValid, TaskValid, Valid}
use Rattle.plan_tables.specs.Layout.{PlanRecord, Tables, vcpu_width, mutex_width, open_width, task_width, zeros, vcpu_cells, owner_cell, mutex_cells, open_cells, lock_cells, task_cells, cell, vcpu_row, task_row}
use Rattle.plan_tables.specs.Given.{Gives, plan_in, is_given}
use Rattle.plan_tables.specs.FlatLaws.{each_of, held_each}
use Rattle.plan_tables.specs.RisingLaws.{chain_map, rising_few}
use Rattle.plan_tables.proofs.LayoutLaws.{padding, task_wide}
use Rattle.plan_tables.proofs.GivenLaws.{Roomy, Kept, gives_kept, tested_exactly, given_plan, tasks_valid, valid_few, row_valid, row_few}

-- no number of a plan is above this
abbrev pub max_cell : ℕ
max_cell = max max_period max_length

-- the first n cells are small
abbrev pub SmallTo : ℕ → List ℕ → Type 0
SmallTo n t = (k : ℕ) → k < n → get_or t k 0 ≤ max_cell

-- row i of a table of tasks
pub record TaskSound (t : List ℕ) (i : ℕ) : Type 0 where
  pub v_in : In (cell t task_width i 0) 1 max_v
  pub n_in : In (cell t task_width i 1) 1 max_n
  pub period_in : In (cell t task_width i 2) 1 max_period
  pub few_locks : cell t task_width i 4 ≤ max_locks

-- every cell of the plan's rows is small
pub record Smalls (r : PlanRecord) (t : Tables) : Type 0 where
  pub vcpus : SmallTo (r.vcpus * vcpu_width) t.vcpus
  pub mutexes : SmallTo (r.mutexes * mutex_width) t.mutexes
  pub opens : SmallTo (r.opens * open_width) t.opens
  pub tasks : SmallTo (r.tasks * task_width) t.tasks

pub record Sound (r : PlanRecord) (t : Tables) : Type 0 where
  pub few_vcpus : r.vcpus ≤ max_v
  pub few_mutexes : r.mutexes ≤ max_m
  pub few_opens : r.opens ≤ max_m * max_guest
  pub few_tasks : r.tasks ≤ max_tasks
  pub room : Roomy r t
  pub small : Smalls r t
  pub vcpu_valid : (i : ℕ) → i < r.vcpus → VcpuValid (vcpu_row t.vcpus i)
  pub task_sound : (i : ℕ) → i < r.tasks → TaskSound t.tasks i

-- COUNTS

-- the place of an opening among all pairs (m, guest)
abbrev open_key : Open → ℕ
open_key r = (r.m - 1) * max_guest + r.guest

-- the ranges of an opening
abbrev OpenIn : Open → Type 0
OpenIn r = In r.m 1 max_m × In r.guest 1 max_guest

open_rises : (r s : Open) → OpenIn r → OpenIn s → PairRises r.m r.guest s.m s.guest → open_key r < open_key s
open_rises r s h k = ⊎_elim (λ l. omega arith) (λ l. omega arith)

module _ {p : Plan} (h : Valid p) where
  pub valid_vcpus : length p.vcpus ≤ max_v
  valid_vcpus = rising_few (λ r. r.v) max_v p.vcpus h.vcpus_rise (each_map p.vcpus (λ r v. v.v_in) h.vcpus_valid)

  pub valid_mutexes : length p.mutexes ≤ max_m
  valid_mutexes = rising_few (λ r. r.m) max_m p.mutexes h.mutexes_rise (each_map p.mutexes (λ r v. v.m_in) h.mutexes_valid)

  opens_in : Each OpenIn p.opens
  opens_in = each_map p.opens (λ r v. (v.m_in, v.guest_in)) h.opens_valid

  pub valid_opens : length p.opens ≤ max_m * max_guest
  valid_opens =
      rising_few open_key (max_m * max_guest) p.opens
      (chain_map (λ r s. PairRises r.m r.guest s.m s.guest) (λ r s. open_key r < open_key s) OpenIn p.opens open_rises opens_in h.opens_rise)
      (each_map p.opens (λ r v. omega (arith, v)) opens_in)

-- SMALL CELLS

abbrev Small : List ℕ → Type 0
Small xs = Each (λ c. c ≤ max_cell) xs

zeros_small : (n : ℕ) → Small (zeros n)
unfolding zeros
zeros_small zero = tt
zeros_small (suc n) = (omega arith, zeros_small n)

vcpu_small : (r : Vcpu) → VcpuValid r → Small (vcpu_cells r)
vcpu_small r h = omega arith

owner_small : (vs : List Vcpu) (o : Owner) → OwnerValid vs o → owner_cell o ≤ max_cell
owner_small vs Global h = omega arith
owner_small vs (Local v) h = omega arith

mutex_small : (vs : List Vcpu) (r : Mutex) → MutexValid vs r → Small (mutex_cells r)
mutex_small vs r h = let o = owner_small vs r.owner h.owned in omega arith

open_small : (r : Open) → OpenIn r → Small (open_cells r)
open_small r h = omega arith

lock_small : {ms : List Mutex} {os : List Open} {g v : ℕ} (l : Lock) → LockValid ms os g v l → Small (lock_cells l)
lock_small l h = omega arith

task_small : {vs : List Vcpu} {ms : List Mutex} {os : List Open} {g : ℕ} (k : Task) → TaskValid vs ms os g k → Small (task_cells k)
task_small k h =
    each_append (λ c. c ≤ max_cell) (k.v ∷ k.n ∷ k.period ∷ k.first ∷ length k.locks ∷ []) (flat lock_cells k.locks ++ padding k) (omega arith)
    (each_append (λ c. c ≤ max_cell) (flat lock_cells k.locks) (padding k)
    (each_flat (λ c. c ≤ max_cell) lock_cells k.locks (each_map k.locks lock_small h.locks_valid)) (zeros_small _))

task_row_law : (r : PlanRecord) (t : Tables) → Valid (plan_in r t) → (i : ℕ) → i < r.tasks → TaskSound t.tasks i
unfolding task_row
task_row_law r t h i l =
    record {
      v_in = row_valid {P = λ k. In k.v 1 max_v} r t h (λ g k w. w.v_in) i l;
      n_in = row_valid {P = λ k. In k.n 1 max_n} r t h (λ g k w. w.n_in) i l;
      period_in = row_valid {P = λ k. In k.period 1 max_period} r t h (λ g k w. w.period_in) i l;
      few_locks = row_few r t h i l;
    }

-- every number of a plan that gives tables is small there
pub given_small : {p : Plan} {r : PlanRecord} {t : Tables} → Valid p → Gives p r t → Smalls r t
given_small {p} h g =
    let k = gives_kept g in
    let ks : List Task = tasks_of p.sections in
    record {
      vcpus = held_each k.vcpus vcpu_width (each_of p.vcpus (λ x. refl)) (λ c. c ≤ max_cell) (each_map p.vcpus vcpu_small h.vcpus_valid);
      mutexes =
          held_each k.mutexes mutex_width (each_of p.mutexes (λ x. refl)) (λ c. c ≤ max_cell)
          (each_map p.mutexes (mutex_small p.vcpus) h.mutexes_valid);
      opens = held_each k.opens open_width (each_of p.opens (λ x. refl)) (λ c. c ≤ max_cell) (each_map p.opens open_small (opens_in h));
      tasks =
          held_each k.tasks task_width (each_map ks task_wide (valid_few h)) (λ c. c ≤ max_cell)
          (tasks_valid {P = λ x. Small (task_cells x)} h (λ g x w. task_small x w));
    }

pub given_sound : (r : PlanRecord) (t : Tables) → is_given r t ≡ true → Sound r t
unfolding plan_in
given_sound r t e =
    let h : Valid (plan_in r t) = (given_plan r t e).0 in
    let g : Gives (plan_in r t) r t = (given_plan r t e).1 in
    let k : Kept (plan_in r t) r t = gives_kept g in
    record {
      few_vcpus = omega (arith, k.vcpus.count, valid_vcpus h);
      few_mutexes = omega (arith, k.mutexes.count, valid_mutexes h);
      few_opens = omega (arith, k.opens.count, valid_opens h);
      few_tasks = omega (arith, k.tasks.count, h.few_tasks);
      room = ((tested_exactly r t).0 e).room;
      small = given_small h g;
      vcpu_valid = λ i l. each_row VcpuValid r.vcpus (vcpu_row t.vcpus) i h.vcpus_valid l;
      task_sound = λ i l. task_row_law r t h i l;
    }
