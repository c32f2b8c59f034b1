-- The cells of the list of times of any system.
use Rattle.std.specs.Prelude.{ℕ, ◌+◌, ◌-◌, ◌*◌, ◌<◌, ◌≡◌, length, get_or}
use Rattle.std.proofs.Common.{◌∙◌, arith}
use Rattle.std.proofs.Math.ListN.{length-append}
use Rattle.laws.specs.Sums.{flat}
use Rattle.laws.specs.Range.{list_to, flat_to, OneTo}
use Rattle.laws.specs.RangeLaws.{list_length}
use Rattle.plan.specs.Limits.{max_v, most_n, max_locks}
use Rattle.figures.specs.System.{System}
use Rattle.figures.specs.Figures.{vcpu_at}
use Rattle.figures.specs.Figures as figures
use Rattle.figures.specs.Named.{task_at}
use Rattle.board_seats.specs.Seats.{seat}
use Rattle.board_keeps.specs.Fair.{InV, InN}
use Rattle.board_viewcells.specs.PartLaws as cells
use Rattle.board_viewcells.specs.PartLaws.{part_of, part_at, name_at, flat_length, flat_at}
use Rattle.clock_rules.specs.Clock.{by_seat}
use Rattle.clock_times.specs.Times.{at_refill, at_period, at_lengths, at_begin, at_end, at_mutex, times_length, core_cell, refill_cell, period_cell, lengths_cell, lock_cell}
use Rattle.clock_cells.specs.TimesOf.{core_of, begin_of, end_of, mutex_of, by_lock, cores, refills, periods, lengths, begins, ends, mutexes, parts, times_of}

-- the place of a lock
abbrev pub InJ : ℕ → Type 0
InJ j = OneTo max_locks j

-- A NUMBER FOR EACH SEAT, and for each seat and place of a lock
module _ (f : ℕ → ℕ → ℕ) where
  seats_length : length (by_seat f) ≡ max_v * most_n
  seats_length = flat_length most_n (λ v. list_to most_n (λ n. f v n)) (λ v. list_length most_n (λ n. f v n)) max_v

  seats_at : (v n : ℕ) → InV v → InN n → get_or (by_seat f) (seat v n - 1) 0 ≡ f v n
  seats_at v n h g =
      let z : seat v n - 1 ≡ (v - 1) * most_n + (n - 1) = omega (arith, g.from) in
      rw z
      (flat_at most_n (λ w. list_to most_n (λ k. f w k)) (λ w. list_length most_n (λ k. f w k)) max_v v (n - 1) h.from h.to (omega (arith, g.from, g.to))
      ∙ name_at most_n n (λ k. f v k) g)

module _ (f : ℕ → ℕ → ℕ → ℕ) where
  row_length : (v : ℕ) → length (flat_to most_n (λ n. list_to max_locks (λ j. f v n j))) ≡ most_n * max_locks
  row_length v = flat_length max_locks (λ n. list_to max_locks (λ j. f v n j)) (λ n. list_length max_locks (λ j. f v n j)) most_n

  locks_length : length (by_lock f) ≡ max_v * most_n * max_locks
  locks_length =
      let z = flat_length (most_n * max_locks) (λ v. flat_to most_n (λ n. list_to max_locks (λ j. f v n j))) row_length max_v in
      omega arith

  locks_at : (v n j : ℕ) → InV v → InN n → InJ j → get_or (by_lock f) ((seat v n - 1) * max_locks + (j - 1)) 0 ≡ f v n j
  locks_at v n j h g k =
      let z : (seat v n - 1) * max_locks + (j - 1) ≡ (v - 1) * (most_n * max_locks) + ((n - 1) * max_locks + (j - 1)) = omega (arith, g.from) in
      rw z
      (flat_at (most_n * max_locks) (λ w. flat_to most_n (λ x. list_to max_locks (λ y. f w x y))) row_length max_v v ((n - 1) * max_locks + (j - 1)) h.from h.to
      (omega (arith, g.from, g.to, k.from, k.to))
      ∙ flat_at max_locks (λ x. list_to max_locks (λ y. f v x y)) (λ x. list_length max_locks (λ y. f v x y)) most_n n (j - 1) g.from g.to
      (omega (arith, k.from, k.to))
      ∙ name_at max_locks j (λ y. f v n y) k)

-- THE PARTS

record Lengths (s : System) : Type 0 where
  of_cores : length (cores s) ≡ max_v
  of_refills : length (refills s) ≡ max_v
  of_periods : length (periods s) ≡ max_v * most_n
  of_lengths : length (lengths s) ≡ max_v * most_n
  of_begins : length (begins s) ≡ max_v * most_n * max_locks
  of_ends : length (ends s) ≡ max_v * most_n * max_locks
  of_mutexes : length (mutexes s) ≡ max_v * most_n * max_locks

module _ (s : System) where
  long : Lengths s
  unfolding cores refills periods lengths begins ends mutexes
  long = record {
    of_cores = list_length max_v (λ v. core_of s v);
    of_refills = list_length max_v (λ v. (vcpu_at s v).period);
    of_periods = seats_length (λ v n. (task_at s v n).period);
    of_lengths = seats_length (λ v n. figures.lengths (task_at s v n));
    of_begins = locks_length (λ v n j. begin_of (task_at s v n) j);
    of_ends = locks_length (λ v n j. end_of (task_at s v n) j);
    of_mutexes = locks_length (λ v n j. mutex_of (task_at s v n) j);
  }

  pub times_length_law : length (times_of s) ≡ times_length
  unfolding times_of flat
  times_length_law = let a = long in simp length-append (omega arith)

  -- the cell j of the list is the cell i of part k
  cell : (k i j : ℕ) → j ≡ cells.start_of (parts s) k + i → i < length (part_of (parts s) k) → get_or (times_of s) j 0 ≡ get_or (part_of (parts s) k) i 0
  unfolding times_of
  cell k i j e l = rw e (part_at (parts s) k i l)

  pub core_cell_law : (v : ℕ) → InV v → core_cell (times_of s) v ≡ core_of s v
  unfolding cores
  core_cell_law v h = let a = long in cell 0 (v - 1) (v - 1) (omega arith) (omega arith) ∙ name_at max_v v (λ w. core_of s w) h

  pub refill_cell_law : (v : ℕ) → InV v → refill_cell (times_of s) v ≡ (vcpu_at s v).period
  unfolding refills
  refill_cell_law v h = let a = long in cell 1 (v - 1) (at_refill + (v - 1)) (omega arith) (omega arith) ∙ name_at max_v v (λ w. (vcpu_at s w).period) h

  pub period_cell_law : (v n : ℕ) → InV v → InN n → period_cell (times_of s) v n ≡ (task_at s v n).period
  unfolding periods
  period_cell_law v n h g =
      let a = long in
      cell 2 (seat v n - 1) (at_period + (seat v n - 1)) (omega arith) (omega arith) ∙ seats_at (λ w k. (task_at s w k).period) v n h g

  pub lengths_cell_law : (v n : ℕ) → InV v → InN n → lengths_cell (times_of s) v n ≡ figures.lengths (task_at s v n)
  unfolding lengths
  lengths_cell_law v n h g =
      let a = long in
      cell 3 (seat v n - 1) (at_lengths + (seat v n - 1)) (omega arith) (omega arith) ∙ seats_at (λ w k. figures.lengths (task_at s w k)) v n h g

  module _ (v n j : ℕ) (h : InV v) (g : InN n) (k : InJ j) where
    pub begin_cell : lock_cell (times_of s) at_begin v n j ≡ begin_of (task_at s v n) j
    unfolding begins
    begin_cell =
        let a = long in
        cell 4 ((seat v n - 1) * max_locks + (j - 1)) (at_begin + ((seat v n - 1) * max_locks + (j - 1))) (omega arith) (omega arith)
        ∙ locks_at (λ w x y. begin_of (task_at s w x) y) v n j h g k

    pub end_cell : lock_cell (times_of s) at_end v n j ≡ end_of (task_at s v n) j
    unfolding ends
    end_cell =
        let a = long in
        cell 5 ((seat v n - 1) * max_locks + (j - 1)) (at_end + ((seat v n - 1) * max_locks + (j - 1))) (omega arith) (omega arith)
        ∙ locks_at (λ w x y. end_of (task_at s w x) y) v n j h g k

    pub mutex_cell : lock_cell (times_of s) at_mutex v n j ≡ mutex_of (task_at s v n) j
    unfolding mutexes
    mutex_cell =
        let a = long in
        cell 6 ((seat v n - 1) * max_locks + (j - 1)) (at_mutex + ((seat v n - 1) * max_locks + (j - 1))) (omega arith) (omega arith)
        ∙ locks_at (λ w x y. mutex_of (task_at s w x) y) v n j h g k
