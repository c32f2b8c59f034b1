-- Laws of the tests that judge no item.
use Rattle.std.specs.Prelude.{ℕ, ◌+◌, ◌*◌, ◌≤◌, ◌<◌, ◌≡◌, Bool, false, ◌↔◌, List}
use Rattle.std.proofs.Math.Path.{sym}
use Rattle.std.proofs.Math.Bool.{true}
use Rattle.std.proofs.Math.Dec.{leb}
use Rattle.std.proofs.Common.{le-leb}
use Rattle.std.proofs.lemmas.Bool.{lt-leb}
use Rattle.laws.specs.BoolLaws.{miss_left, both_exactly, leb_exactly}
use Rattle.laws.specs.SumLaws.{each_all}
use Rattle.laws.specs.Rows.{rows}
use Rattle.laws.specs.RowLaws.{all_found, each_rows}
use Rattle.plan.specs.Limits.{max_v, max_m, most_tasks, max_locks}
use Rattle.plan_tables.specs.declared.PlanRecord.{PlanRecord}
use Rattle.plan_tables.specs.Layout.{task_width, lock_width, first_lock, cell}
use Rattle.plan_tables.specs.Given.{zero_from, zero_rest}
use Rattle.given_tidy.specs.Tests.{most_rows, few, Few, tidy, all_tidy}

-- a task by its count of locks: few, or more
module _ (t : List ℕ) (i : ℕ) {k : ℕ} (e : k ≡ cell t task_width i 4) where
  pub tidy_few : {b : Bool} → k ≤ max_locks → b ≡ zero_from t i (first_lock + k * lock_width) → b ≡ tidy t i
  unfolding tidy zero_rest
  tidy_few l h = let f : leb (cell t task_width i 4) max_locks ≡ true = rw e at (le-leb k max_locks l) in rw (f, ← e) h

  pub tidy_many : max_locks < k → false ≡ tidy t i
  unfolding tidy
  tidy_many l = sym (miss_left (leb (cell t task_width i 4) max_locks) (zero_rest t i) (rw e at (lt-leb k max_locks l)))

-- THE COUNTS
pub few_exactly : (r : PlanRecord) → (few r ≡ true) ↔ Few r
unfolding few
few_exactly r =
    let e =
    both_exactly (leb_exactly r.vcpus max_v)
    (both_exactly (leb_exactly r.mutexes max_m) (both_exactly (leb_exactly r.opens most_rows) (leb_exactly r.tasks most_tasks))) in (
      λ h. let f = e.0 h in record { vcpus = f.0; mutexes = f.1.0; opens = f.1.1.0; tasks = f.1.1.1 },
      λ h. e.1 (h.vcpus, (h.mutexes, (h.opens, h.tasks))),
    )

-- each task, and all
pub tidy_exactly : (t : List ℕ) (i : ℕ) → (tidy t i ≡ true) ↔ ((cell t task_width i 4 ≤ max_locks) × (zero_rest t i ≡ true))
unfolding tidy
tidy_exactly t i = both_exactly (leb_exactly (cell t task_width i 4) max_locks) (λ h. h, λ h. h)

pub tidy_at : (t : List ℕ) (n i : ℕ) → all_tidy t n ≡ true → i < n → tidy t i ≡ true
unfolding all_tidy
tidy_at t n i h l = all_found (tidy t) (λ k. k) n i l h

pub tidy_all : (t : List ℕ) (n : ℕ) → ((i : ℕ) → i < n → tidy t i ≡ true) → all_tidy t n ≡ true
unfolding all_tidy
tidy_all t n h = each_all (tidy t) (rows n (λ k. k)) (each_rows (λ i. tidy t i ≡ true) n (λ k. k) h)

-- each task has few locks
pub few_locks : (t : List ℕ) (n : ℕ) → all_tidy t n ≡ true → (i : ℕ) → i < n → cell t task_width i 4 ≤ max_locks
few_locks t n h i l = ((tidy_exactly t i).0 (tidy_at t n i h l)).0
