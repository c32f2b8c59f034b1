-- Laws of the code that writes the times: the rows of tasks, their locks, and the cells by their places.
use Prim.Native.Nat.{ℕ, ◌+◌, ◌-◌, ◌*◌, ◌/◌, ◌%◌, ◌<◌, ◌≤◌}
use Rattle.std.specs.Prelude.{◌≡◌, Bool, true, false, ltb, leb, length, set, take}
use Rattle.std.proofs.Math.Path.{ap, ap₂, sym}
use Rattle.std.proofs.Common.{subst, ◌∙◌, ⊎_elim, le_antisymm, arith, below_more, length-set, ext_get_or, get_or-set_same, get_or-set_other, get_or-take, length-take-le}
use mathlib.Core.List.{List}
use borrow.Author.Tests.{lt-ltb, le-ltb, ltb-true, ltb-false, leb-true, leb-false, lt-leb}
use Rattle.std.proofs.Math.ListN.{get_or, get_or-eq_default}
use Rattle.laws.specs.BoolLaws.{clash, bool_cases}
use Rattle.std.specs.Prelude.{if◌then◌else◌}
use Rattle.laws.specs.Choice.{when}
use Rattle.laws.specs.Sums.{sum}
use Rattle.laws.specs.SumLaws as sums
use Rattle.laws.specs.Rows.{rows}
use Rattle.laws.specs.RowLaws.{rows_length, rows_at}
use Rattle.plan.specs.declared.Lock.{Lock}
use Rattle.plan.specs.Plan.{Vcpu, Task, no_task, no_lock}
use Rattle.plan_tables.specs.declared.PlanRecord.{PlanRecord}
use Rattle.plan_tables.specs.Layout.{cell, task_width, lock_row, task_row, vcpu_row}
use Rattle.figures.specs.System.{System}
use Rattle.figures.specs.Tabled.{system_in}
use Rattle.figures.specs.Figures.{vcpu_at}
use Rattle.figures.specs.Figures as figures
use Rattle.figures.specs.Named.{has_task, task_at, lock_at}
use Rattle.figures_found.specs.First.{VcpuFirst, TaskFirst, vcpu_test, vcpu_is, task_test, task_is}
use Rattle.board_seats.specs.Seats.{seat}
use Rattle.board_keeps.specs.Fair.{InV, InN}
use Rattle.clock_cells.specs.TimesOf.{core_of, has_lock, start_of, begin_of, end_of, mutex_of, times_of}
use Rattle.clock_cells.specs.TaskRows.{task_in, Listed, Rowed}
use Rattle.clock_cells.specs.CellLaws.{core_cell_law, refill_cell_law, period_cell_law, lengths_cell_law, begin_cell, end_cell, mutex_cell}

-- A LOOP THAT WRITES NUMBERS
module _ {P : ℕ → ℕ → Type 0} {n : ℕ} where
  pub listed_none : {xs : List ℕ} → length xs ≡ n → Listed P n xs 0
  listed_none e = record { within = omega arith; room = e; at = λ j l. absurd (omega arith) }

  pub listed_more : {xs : List ℕ} {x i : ℕ} → Listed P n xs i → i < n → P i x → Listed P n (set xs i x) (i + 1)
  listed_more {xs} {x} {i} h l p = record {
    within = omega arith;
    room = length-set xs i x ∙ h.room;
    at =
        below_more (λ j. P j (get_or (set xs i x) j 0)) i
        (λ j m. rw (get_or-set_other xs i j x 0 (λ q. omega arith)) (h.at j m))
        (rw (get_or-set_same xs i x 0 (omega (arith, h.room))) p);
  }

  pub listed_all : {xs : List ℕ} {i : ℕ} → Listed P n xs i → n ≤ i → Listed P n xs n
  listed_all {xs} h l = subst (λ x. Listed P n xs x) (le_antisymm h.within l) h

-- numbers that are those of a list
pub listed_is : {n i : ℕ} {xs : List ℕ} (ys : List ℕ) → length ys ≡ n → Listed (λ j x. x ≡ get_or ys j 0) n xs i → n ≤ i → xs ≡ ys
listed_is {xs} ys e h l = let a = h.room in ext_get_or 0 xs ys (omega arith) (λ j m. h.at j (omega arith))

-- THE CORE of a VCPU, by its row
module _ (r : PlanRecord) (vt mt ts : List ℕ) (v : ℕ) {a : ℕ} (h : VcpuFirst r vt v a) where
  pub core_none : r.vcpus ≤ a → core_of (system_in r vt mt ts) v ≡ 0
  unfolding core_of system_in when
  core_none l = rw (vcpu_test r vt v h ∙ le-ltb a r.vcpus l)

  pub core_is : a < r.vcpus → core_of (system_in r vt mt ts) v ≡ (vcpu_row vt a).core + 1
  unfolding core_of when
  core_is l = unfold system_in in rw (vcpu_test r vt v h ∙ lt-ltb a r.vcpus l) (ap (λ (x : Vcpu). x.core + 1) (vcpu_is r vt v h mt ts l))

-- THE TASK OF A ROW
module _ (r : PlanRecord) (ts : List ℕ) (a : ℕ) where
  pub task_row_law : a < r.tasks → task_in r ts a ≡ task_row ts a
  unfolding task_in
  task_row_law l = ap (λ t. if t then task_row ts a else no_task) (lt-ltb a r.tasks l)

  pub task_none : r.tasks ≤ a → task_in r ts a ≡ no_task
  unfolding task_in
  task_none l = ap (λ t. if t then task_row ts a else no_task) (le-ltb a r.tasks l)

  row_locks : a < r.tasks → (task_in r ts a).locks ≡ rows (cell ts task_width a 4) (lock_row ts a)
  unfolding task_row
  row_locks l = ap (λ (k : Task). k.locks) (task_row_law l)

  row_length : a < r.tasks → length (task_in r ts a).locks ≡ cell ts task_width a 4
  row_length l = ap length (row_locks l) ∙ rows_length (cell ts task_width a 4) (lock_row ts a)

  -- the test of a lock, where the row is there and where it is not
  pub lock_test : (j : ℕ) → a < r.tasks → has_lock (task_in r ts a) j ≡ leb j (cell ts task_width a 4)
  lock_test j l = ap (leb j) (row_length l)

  pub lock_none : (j : ℕ) → 0 < j → r.tasks ≤ a → has_lock (task_in r ts a) j ≡ false
  lock_none j g l = ap (λ (k : Task). leb j (length k.locks)) (task_none l) ∙ lt-leb j 0 g

  -- a lock that is there: b is the flag of the test
  module _ (j : ℕ) (g : 0 < j) {b : Bool} (t : b ≡ has_lock (task_in r ts a) j) (u : b ≡ true) where
    pub lock_within : a < r.tasks
    lock_within =
        ⊎_elim (λ q. ltb-true a r.tasks q) (λ q. absurd (clash u (t ∙ lock_none j g (ltb-false a r.tasks q)))) (bool_cases (ltb a r.tasks))

    lock_count : j ≤ cell ts task_width a 4
    lock_count = leb-true j _ (sym (lock_test j lock_within) ∙ sym t ∙ u)

    -- the locks before it
    before : take (j - 1) (task_in r ts a).locks ≡ rows (j - 1) (lock_row ts a)
    before =
        let n = cell ts task_width a 4 in
        let c = lock_count in
        let w = rows_length n (lock_row ts a) in
        let u = length-take-le (j - 1) (rows n (lock_row ts a)) (omega arith) in
        let z = rows_length (j - 1) (lock_row ts a) in
        ap (take (j - 1)) (row_locks lock_within)
        ∙ ext_get_or no_lock (take (j - 1) (rows n (lock_row ts a))) (rows (j - 1) (lock_row ts a)) (u ∙ sym z)
        (λ i l. let m : i < j - 1 = rw u at l in
        get_or-take (j - 1) (rows n (lock_row ts a)) i no_lock m ∙ rows_at n i (lock_row ts a) no_lock (omega arith) ∙ sym (rows_at (j - 1) i (lock_row ts a) no_lock m))

    lock_row_law : lock_at (task_in r ts a) j ≡ lock_row ts a (j - 1)
    unfolding lock_at
    lock_row_law =
        let c = lock_count in
        ap (λ (ls : List Lock). get_or ls (j - 1) no_lock) (row_locks lock_within)
        ∙ rows_at (cell ts task_width a 4) (j - 1) (lock_row ts a) no_lock (omega arith)

    start_is : start_of (task_in r ts a) j ≡ cell ts task_width a 3 + sum (λ l. l.ticks + l.after) (rows (j - 1) (lock_row ts a))
    unfolding start_of task_row
    start_is = ap₂ ◌+◌ (ap (λ (k : Task). k.first) (task_row_law lock_within)) (ap (sum (λ l. l.ticks + l.after)) before)

    pub begin_is : begin_of (task_in r ts a) j ≡ cell ts task_width a 3 + sum (λ l. l.ticks + l.after) (rows (j - 1) (lock_row ts a))
    unfolding begin_of when
    begin_is = ap (λ q. when q (start_of (task_in r ts a) j)) (sym t ∙ u) ∙ start_is

    -- x is when it begins, y are its ticks
    pub end_is :
        {x y : ℕ} → x ≡ cell ts task_width a 3 + sum (λ l. l.ticks + l.after) (rows (j - 1) (lock_row ts a)) → y ≡ (lock_row ts a (j - 1)).ticks →
        x + y ≡ end_of (task_in r ts a) j
    unfolding end_of when
    end_is p q =
        ap₂ ◌+◌ (p ∙ sym start_is) (q ∙ ap (λ (l : Lock). l.ticks) (sym lock_row_law))
        ∙ ap (λ z. when z (start_of (task_in r ts a) j + (lock_at (task_in r ts a) j).ticks)) (sym u ∙ t)

    pub mutex_is : mutex_of (task_in r ts a) j ≡ (lock_row ts a (j - 1)).m
    unfolding mutex_of
    mutex_is = ap (λ (l : Lock). l.m) lock_row_law

-- a lock that is not there
module _ (k : Task) (j : ℕ) {b : Bool} (t : b ≡ has_lock k j) (u : b ≡ false) where
  pub begin_none : begin_of k j ≡ 0
  unfolding begin_of when
  begin_none = ap (λ q. when q (start_of k j)) (sym t ∙ u)

  pub end_none : end_of k j ≡ 0
  unfolding end_of when
  end_none = ap (λ q. when q (start_of k j + (lock_at k j).ticks)) (sym t ∙ u)

  pub mutex_none : mutex_of k j ≡ 0
  unfolding mutex_of lock_at
  mutex_none = let l = leb-false j (length k.locks) (sym t ∙ u) in ap (λ (x : Lock). x.m) (get_or-eq_default k.locks no_lock (omega arith))

-- THE ROW OF A SEAT has its task
task_at_law : (r : PlanRecord) (vt mt ts : List ℕ) (v n : ℕ) {a : ℕ} → TaskFirst r ts v n a → task_in r ts a ≡ task_at (system_in r vt mt ts) v n
unfolding task_at has_task
task_at_law r vt mt ts v n {a} h =
    ⊎_elim
    (λ t. let l = ltb-true a r.tasks t in task_row_law r ts a l ∙ sym (task_is r vt mt ts v n h l))
    (λ t. task_none r ts a (ltb-false a r.tasks t) ∙ sym (sums.first_none _ no_task (system_in r vt mt ts).tasks (task_test r vt mt ts v n h ∙ t)))
    (bool_cases (ltb a r.tasks))

-- THE CELLS BY THEIR PLACES
module _ (s : System) where
  -- the cell at j is the cell at k
  at_place_law : {x : ℕ} (j k : ℕ) → j ≡ k → get_or (times_of s) j 0 ≡ x → x ≡ get_or (times_of s) k 0
  at_place_law j k e h = rw e at (sym h)

  pub core_place : (k : ℕ) → k < 16 → core_of s (k + 1) ≡ get_or (times_of s) k 0
  core_place k l = at_place_law (k + 1 - 1) k (omega arith) (core_cell_law s (k + 1) (record { from = omega arith; to = omega arith }))

  pub refill_place : (k : ℕ) → 16 ≤ k → k < 32 → (vcpu_at s (k - 15)).period ≡ get_or (times_of s) k 0
  refill_place k h l = at_place_law (16 + (k - 15 - 1)) k (omega arith) (refill_cell_law s (k - 15) (record { from = omega arith; to = omega arith }))

  -- the numbers by seat and lock begin at 288
  pub lock_place : {x : ℕ} (k : ℕ) → 288 ≤ k → x ≡ get_or (times_of s) (288 + (k - 288)) 0 → x ≡ get_or (times_of s) k 0
  lock_place k l e = at_place_law (288 + (k - 288)) k (omega arith) (sym e)

module _ (r : PlanRecord) (vt mt ts at : List ℕ) (w : Rowed r ts at) where
  -- the v and n of the seat at place i
  v_in : (i : ℕ) → i < 128 → InV (i / 8 + 1)
  v_in i l = record { from = omega arith; to = omega arith }

  n_in : (i : ℕ) → InN (i % 8 + 1)
  n_in i = record { from = omega arith; to = omega arith }

  seated : (i : ℕ) → i < 128 → task_in r ts (get_or at i 0) ≡ task_at (system_in r vt mt ts) (i / 8 + 1) (i % 8 + 1)
  seated i l = task_at_law r vt mt ts (i / 8 + 1) (i % 8 + 1) (w.at i l)

  pub period_place : (k : ℕ) → 32 ≤ k → k < 160 → (task_in r ts (get_or at (k - 32) 0)).period ≡ get_or (times_of (system_in r vt mt ts)) k 0
  period_place k h l =
      let i = k - 32 in
      ap (λ (x : Task). x.period) (seated i (omega arith))
      ∙ at_place_law (system_in r vt mt ts) (32 + (seat (i / 8 + 1) (i % 8 + 1) - 1)) k (omega arith)
      (period_cell_law (system_in r vt mt ts) (i / 8 + 1) (i % 8 + 1) (v_in i (omega arith)) (n_in i))

  pub lengths_place : (k : ℕ) → 160 ≤ k → k < 288 → figures.lengths (task_in r ts (get_or at (k - 160) 0)) ≡ get_or (times_of (system_in r vt mt ts)) k 0
  lengths_place k h l =
      let i = k - 160 in
      ap figures.lengths (seated i (omega arith))
      ∙ at_place_law (system_in r vt mt ts) (160 + (seat (i / 8 + 1) (i % 8 + 1) - 1)) k (omega arith)
      (lengths_cell_law (system_in r vt mt ts) (i / 8 + 1) (i % 8 + 1) (v_in i (omega arith)) (n_in i))

  pub begin_place : (c : ℕ) → c < 1024 → begin_of (task_in r ts (get_or at (c % 1024 / 8) 0)) (c % 8 + 1) ≡ get_or (times_of (system_in r vt mt ts)) (288 + c) 0
  begin_place c l =
      let i = c % 1024 / 8 in
      ap (λ x. begin_of x (c % 8 + 1)) (seated i (omega arith))
      ∙ at_place_law (system_in r vt mt ts) (288 + ((seat (i / 8 + 1) (i % 8 + 1) - 1) * 8 + (c % 8 + 1 - 1))) (288 + c) (omega arith)
      (begin_cell (system_in r vt mt ts) (i / 8 + 1) (i % 8 + 1) (c % 8 + 1) (v_in i (omega arith)) (n_in i) (record { from = omega arith; to = omega arith }))

  pub end_place : (c : ℕ) → 1024 ≤ c → c < 2048 → end_of (task_in r ts (get_or at (c % 1024 / 8) 0)) (c % 8 + 1) ≡ get_or (times_of (system_in r vt mt ts)) (288 + c) 0
  end_place c h l =
      let i = c % 1024 / 8 in
      ap (λ x. end_of x (c % 8 + 1)) (seated i (omega arith))
      ∙ at_place_law (system_in r vt mt ts) (1312 + ((seat (i / 8 + 1) (i % 8 + 1) - 1) * 8 + (c % 8 + 1 - 1))) (288 + c) (omega arith)
      (end_cell (system_in r vt mt ts) (i / 8 + 1) (i % 8 + 1) (c % 8 + 1) (v_in i (omega arith)) (n_in i) (record { from = omega arith; to = omega arith }))

  pub mutex_place : (c : ℕ) → 2048 ≤ c → c < 3072 → mutex_of (task_in r ts (get_or at (c % 1024 / 8) 0)) (c % 8 + 1) ≡ get_or (times_of (system_in r vt mt ts)) (288 + c) 0
  mutex_place c h l =
      let i = c % 1024 / 8 in
      ap (λ x. mutex_of x (c % 8 + 1)) (seated i (omega arith))
      ∙ at_place_law (system_in r vt mt ts) (2336 + ((seat (i / 8 + 1) (i % 8 + 1) - 1) * 8 + (c % 8 + 1 - 1))) (288 + c) (omega arith)
      (mutex_cell (system_in r vt mt ts) (i / 8 + 1) (i % 8 + 1) (c % 8 + 1) (v_in i (omega arith)) (n_in i) (record { from = omega arith; to = omega arith }))
