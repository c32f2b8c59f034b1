-- Laws of `Layout`: rows that were written are read back, and rows that were read are written back.
use Prim.Native.Nat.{ℕ, zero, suc, ◌+◌, ◌-◌, ◌*◌, ◌≤◌, ◌<◌}
use Rattle.std.specs.Prelude.{◌≡◌, refl, Bool, true, ◌↔◌, eqb, length, drop}
use Rattle.std.proofs.Math.Path.{ap, sym}
use Rattle.std.proofs.Common.{ap₂, ◌∙◌, eqb-true, eq-eqb, length-append, get_or-append-add}
use mathlib.Core.List.{List, [], ◌∷◌, ◌++◌}
use native.Mathlib.Omega.{arith}
use Rattle.std.proofs.Math.ListN.{get_or}
use Rattle.laws.specs.Sums.{flat, Each}
use Rattle.laws.specs.SumLaws.{each_all, each_at_law, each_map}
use Rattle.laws.specs.Rows.{rows}
use Rattle.laws.specs.RowLaws.{rows_length, rows_same, rows_get_d, all_found, each_rows}
use Rattle.plan.specs.Limits.{max_locks}
use Rattle.plan.specs.Plan.{Vcpu, Owner, Global, Local, Mutex, Open, Task, no_lock}
use Rattle.plan_tables.specs.Layout.{vcpu_width, mutex_width, open_width, lock_width, first_lock, task_width, vcpu_cells, owner_cell, mutex_cells, open_cells, lock_cells, zeros, task_cells, over, cell, vcpu_row, owner_of, mutex_row, open_row, lock_row, task_row}
use Rattle.plan_tables.specs.Given.{zero_from, zero_rest}
use Rattle.plan_tables.specs.FlatLaws.{rows_add, each_of, flat_length, flat_cell, flat_rows, rows_back, over_rows}

-- VCPUS

pub vcpus_back : (rs : List Vcpu) (t : List ℕ) → rows (length rs) (vcpu_row (over (flat vcpu_cells rs) t)) ≡ rs
unfolding vcpu_row
vcpus_back rs t =
    rows_back vcpu_cells vcpu_width (λ x. Unit {0}) vcpu_row (λ x o. refl)
    (λ u i x o h k.
    record {
      v = h 0 (omega arith) k;
      guest = h 1 (omega arith) k;
      core = h 2 (omega arith) k;
      budget = h 3 (omega arith) k;
      period = h 4 (omega arith) k;
    })
    rs t (each_of rs (λ x. tt))

pub vcpus_over : (n : ℕ) (t : List ℕ) → n * vcpu_width ≤ length t → over (flat vcpu_cells (rows n (vcpu_row t))) t ≡ t
unfolding vcpu_row rows
vcpus_over n t h = over_rows vcpu_cells vcpu_width n (vcpu_row t) t (λ i l. refl) h

-- MUTEXES

-- a local owner is not 0
abbrev pub Named : Owner → Type 0
Named Global = Unit {0}
Named (Local v) = 1 ≤ v

pub owner_back : (o : Owner) → Named o → owner_of (owner_cell o) ≡ o
owner_back Global h = refl
owner_back (Local zero) h = absurd (omega arith)
owner_back (Local (suc v)) h = refl

pub owner_over : (c : ℕ) → owner_cell (owner_of c) ≡ c
owner_over zero = refl
owner_over (suc c) = refl

pub mutexes_back :
    (rs : List Mutex) (t : List ℕ) → Each (λ r. Named r.owner) rs → rows (length rs) (mutex_row (over (flat mutex_cells rs) t)) ≡ rs
unfolding mutex_row
mutexes_back rs t =
    rows_back mutex_cells mutex_width (λ r. Named r.owner) mutex_row (λ x o. refl)
    (λ u i x o h k. record { m = h 0 (omega arith) k; owner = (ap owner_of (h 1 (omega arith)) ∙ owner_back x.owner o) k }) rs t

pub mutexes_over : (n : ℕ) (t : List ℕ) → n * mutex_width ≤ length t → over (flat mutex_cells (rows n (mutex_row t))) t ≡ t
unfolding mutex_row rows
mutexes_over n t h =
    over_rows mutex_cells mutex_width n (mutex_row t) t (λ i l. ap (λ c. cell t mutex_width i 0 ∷ c ∷ []) (owner_over (cell t mutex_width i 1))) h

-- OPENS

pub opens_back : (rs : List Open) (t : List ℕ) → rows (length rs) (open_row (over (flat open_cells rs) t)) ≡ rs
unfolding open_row
opens_back rs t =
    rows_back open_cells open_width (λ x. Unit {0}) open_row (λ x o. refl)
    (λ u i x o h k. record { m = h 0 (omega arith) k; guest = h 1 (omega arith) k }) rs t (each_of rs (λ x. tt))

pub opens_over : (n : ℕ) (t : List ℕ) → n * open_width ≤ length t → over (flat open_cells (rows n (open_row t))) t ≡ t
unfolding open_row rows
opens_over n t h = over_rows open_cells open_width n (open_row t) t (λ i l. refl) h

-- TASKS

pub zeros_length : (n : ℕ) → length (zeros n) ≡ n
unfolding zeros
zeros_length zero = refl
zeros_length (suc n) = ap suc (zeros_length n)

pub zeros_at : (n k : ℕ) → get_or (zeros n) k 0 ≡ 0
unfolding zeros
zeros_at zero k = refl
zeros_at (suc n) zero = refl
zeros_at (suc n) (suc k) = zeros_at n k

zeros_rows : (n : ℕ) (f : ℕ → ℕ) → ((j : ℕ) → j < n → f j ≡ 0) → zeros n ≡ rows n f
zeros_rows n f h =
    sym
    (rows_same n (λ j l. h j l ∙ sym (zeros_at n j))
    ∙ ap (λ k. rows k (λ j. get_or (zeros n) j 0)) (sym (zeros_length n))
    ∙ rows_get_d (zeros n) 0)

-- where the locks that task i has end
abbrev pub last_lock : List ℕ → ℕ → ℕ
last_lock t i = first_lock + cell t task_width i 4 * lock_width

-- the test for zeros, as a fact of each place
pub zero_rest_law : (t : List ℕ) (i : ℕ) → (zero_rest t i ≡ true) ↔ ((j : ℕ) → last_lock t i + j < task_width → cell t task_width i (last_lock t i + j) ≡ 0)
unfolding zero_rest zero_from
zero_rest_law t i =
    let q : ℕ → Bool = λ x. eqb x 0 in
    let n : ℕ = task_width - last_lock t i in
    let f : ℕ → ℕ = λ j. cell t task_width i (last_lock t i + j) in (
      λ h j l. eqb-true (f j) 0 (all_found q f n j (omega arith) h),
      λ h. each_all q (rows n f) (each_rows (λ x. q x ≡ true) n f (λ j l. eq-eqb (f j) 0 (h j (omega arith)))),
    )

-- at most 8 locks
abbrev pub Few : Task → Type 0
Few k = length k.locks ≤ max_locks

-- the zeros of a task
abbrev pub padding : Task → List ℕ
padding k = zeros ((max_locks - length k.locks) * lock_width)

pub task_wide : (k : Task) → Few k → length (task_cells k) ≡ task_width
task_wide k h =
    omega (
      arith,
      length-append (flat lock_cells k.locks) (padding k),
      flat_length lock_cells lock_width k.locks (each_of k.locks (λ l. refl)),
      zeros_length ((max_locks - length k.locks) * lock_width),
    )

-- the cells of a task from its locks on
task_rest : (k : Task) (j : ℕ) → get_or (task_cells k) (first_lock + j) 0 ≡ get_or (flat lock_cells k.locks ++ padding k) j 0
task_rest k j =
    get_or-append-add (k.v ∷ k.n ∷ k.period ∷ k.first ∷ length k.locks ∷ []) (flat lock_cells k.locks ++ padding k) j 0

-- the cell c of lock j
lock_cell_law :
    (k : Task) (j c : ℕ) → j < length k.locks → c < lock_width →
    get_or (task_cells k) (first_lock + (j * lock_width + c)) 0 ≡ get_or (lock_cells (get_or k.locks j no_lock)) c 0
lock_cell_law k j c l h =
    task_rest k (j * lock_width + c)
    ∙ flat_cell lock_cells lock_width k.locks (padding k) no_lock (each_of k.locks (λ x. refl)) j c l h

module _ (t : List ℕ) (i : ℕ) (k : Task) (few : Few k) (h : (j : ℕ) → j < task_width → cell t task_width i j ≡ get_or (task_cells k) j 0) where
  lock_back : (j : ℕ) → j < length k.locks → lock_row t i j ≡ get_or k.locks j no_lock
  unfolding lock_row
  lock_back j l =
      let place : (c : ℕ) → c < lock_width → cell t task_width i (first_lock + (j * lock_width + c)) ≡ get_or (lock_cells (get_or k.locks j no_lock)) c 0 =
      λ c b. h (first_lock + (j * lock_width + c)) (omega arith) ∙ lock_cell_law k j c l b in
      λ e. record { m = place 0 (omega arith) e; ticks = place 1 (omega arith) e; after = place 2 (omega arith) e }

  locks_back : rows (cell t task_width i 4) (lock_row t i) ≡ k.locks
  locks_back =
      ap (λ n. rows n (lock_row t i)) (h 4 (omega arith)) ∙ rows_same (length k.locks) lock_back ∙ rows_get_d k.locks no_lock

  task_back : task_row t i ≡ k
  unfolding task_row
  task_back =
      λ e. record {
        v = h 0 (omega arith) e;
        n = h 1 (omega arith) e;
        period = h 2 (omega arith) e;
        first = h 3 (omega arith) e;
        locks = locks_back e;
      }

  -- the places of locks that the task does not have
  task_zeros : zero_rest t i ≡ true
  task_zeros =
      (zero_rest_law t i).1
      (λ j l.
      let ls : List ℕ = flat lock_cells k.locks in
      let e : cell t task_width i 4 ≡ length k.locks = h 4 (omega arith) in
      let q : last_lock t i + j ≡ first_lock + (length ls + j) = omega (arith, flat_length lock_cells lock_width k.locks (each_of k.locks (λ x. refl))) in
      h (last_lock t i + j) l ∙ rw q (task_rest k (length ls + j) ∙ get_or-append-add ls (padding k) j 0 ∙ zeros_at _ j))

pub tasks_back : (ks : List Task) (t : List ℕ) → Each Few ks → rows (length ks) (task_row (over (flat task_cells ks) t)) ≡ ks
tasks_back ks t = rows_back task_cells task_width Few task_row task_wide task_back ks t

pub tasks_zeros : (ks : List Task) (t : List ℕ) → Each Few ks → (i : ℕ) → i < length ks → zero_rest (over (flat task_cells ks) t) i ≡ true
tasks_zeros [] t h i l = absurd (omega arith)
tasks_zeros (k ∷ ks) t h i l =
    task_zeros (over (flat task_cells (k ∷ ks)) t) i (get_or (k ∷ ks) i k) (each_at_law Few (k ∷ ks) i k h l)
    (λ j b. flat_cell task_cells task_width (k ∷ ks) (drop (length (flat task_cells (k ∷ ks))) t) k (each_map (k ∷ ks) task_wide h) i j l b)

-- a row whose count is at most 8 and whose rest is zero
module _ (t : List ℕ) (i : ℕ) (few : cell t task_width i 4 ≤ max_locks) (rest : zero_rest t i ≡ true) where
  task_cells_law : task_cells (task_row t i) ≡ rows task_width (λ j. cell t task_width i j)
  unfolding task_row lock_row rows
  task_cells_law =
      let c : ℕ = cell t task_width i 4 in
      let f : ℕ → ℕ = λ j. cell t task_width i j in
      ap (λ n. f 0 ∷ f 1 ∷ f 2 ∷ f 3 ∷ n ∷ (flat lock_cells (rows c (lock_row t i)) ++ zeros ((max_locks - n) * lock_width))) (rows_length c (lock_row t i))
      ∙ ap (λ l. f 0 ∷ f 1 ∷ f 2 ∷ f 3 ∷ f 4 ∷ l)
      (ap₂ ◌++◌ (flat_rows lock_cells lock_width c (lock_row t i) (λ j. f (first_lock + j)) (λ j l. refl))
      (zeros_rows ((max_locks - c) * lock_width) (λ j. f (first_lock + (c * lock_width + j)))
      (λ j l. let e : first_lock + (c * lock_width + j) ≡ first_lock + c * lock_width + j = omega arith in rw e ((zero_rest_law t i).0 rest j (omega arith))))
      ∙ sym (rows_add (c * lock_width) ((max_locks - c) * lock_width) (λ j. f (first_lock + j)))
      ∙ ap (λ n. rows n (λ j. f (first_lock + j))) {x = c * lock_width + (max_locks - c) * lock_width} {y = max_locks * lock_width} (omega arith))
      ∙ sym (rows_add first_lock (max_locks * lock_width) f)

pub tasks_over :
    (n : ℕ) (t : List ℕ) → ((i : ℕ) → i < n → (cell t task_width i 4 ≤ max_locks) × (zero_rest t i ≡ true)) → n * task_width ≤ length t →
    over (flat task_cells (rows n (task_row t))) t ≡ t
tasks_over n t h l = over_rows task_cells task_width n (task_row t) t (λ i b. task_cells_law t i (h i b).0 (h i b).1) l
