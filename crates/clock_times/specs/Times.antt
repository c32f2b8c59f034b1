-- The times of a plan in one list of numbers x, so that a tick scans no table: what the clock asks of a plan beside the view of the board.
use Rattle.std.specs.Prelude.{ℕ, ◌+◌, ◌-◌, ◌*◌, ◌<◌, ◌≤◌, ◌≡◌, List, Bool, true, false, ◌&&◌, eqb, ltb, length, get_or}
use Rattle.std.specs.Prelude.{if◌then◌else◌}
use Rattle.laws.specs.Choice.{when}
use Rattle.laws_picks.specs.Picks.{lowest}
use Rattle.plan.specs.Limits.{max_v, most_n, max_locks, max_period}
use Rattle.board_seats.specs.Seats.{is_v, is_n, seat}
use Rattle.board_seats.specs.Seats as seats
use Rattle.clock_rules.specs.Facts.{Facts}
use Rattle.board_keeps.specs.Fair.{InV, InN}
use Rattle.clock_rules.specs.Clock.{Timing}

-- where each kind of number begins: the cores of VCPUs, their periods, the periods of tasks, their lengths, and by lock when its section begins, when it
-- ends, and its mutex
abbrev pub at_refill : ℕ
at_refill = max_v

abbrev pub at_period : ℕ
at_period = max_v + max_v

abbrev pub at_lengths : ℕ
at_lengths = at_period + max_v * most_n

abbrev pub at_begin : ℕ
at_begin = at_lengths + max_v * most_n

abbrev pub at_end : ℕ
at_end = at_begin + max_v * most_n * max_locks

abbrev pub at_mutex : ℕ
at_mutex = at_end + max_v * most_n * max_locks

abbrev pub times_length : ℕ
times_length = at_mutex + max_v * most_n * max_locks

-- the core of v and one more, 0 for a VCPU that the plan lacks
abbrev pub core_cell : List ℕ → ℕ → ℕ
core_cell x v = get_or x (v - 1) 0

abbrev pub refill_cell : List ℕ → ℕ → ℕ
refill_cell x v = get_or x (at_refill + (v - 1)) 0

abbrev pub period_cell : List ℕ → ℕ → ℕ → ℕ
period_cell x v n = get_or x (at_period + (seat v n - 1)) 0

abbrev pub lengths_cell : List ℕ → ℕ → ℕ → ℕ
lengths_cell x v n = get_or x (at_lengths + (seat v n - 1)) 0

-- number j, from 1, of the eight places of locks of (v, n), counted from `at`; the mutex is 0 where the task has no such lock
abbrev pub lock_cell : List ℕ → ℕ → ℕ → ℕ → ℕ → ℕ
lock_cell x at v n j = get_or x (at + ((seat v n - 1) * max_locks + (j - 1))) 0

-- the first lock of (v, n) that has d in the part `at`, 0 for none; and its mutex
abbrev pub lock_with : List ℕ → ℕ → ℕ → ℕ → ℕ → ℕ
lock_with x at v n d = lowest max_locks (λ j. ltb 0 (lock_cell x at_mutex v n j) && eqb (lock_cell x at v n j) d)

abbrev pub mutex_with : List ℕ → ℕ → ℕ → ℕ → ℕ → ℕ
mutex_with x at v n d = let j = lock_with x at v n d in if eqb j 0 then 0 else lock_cell x at_mutex v n j

-- the timing that such a list says, beside the board's facts
unfoldable pub timing_in : Facts → List ℕ → Timing
timing_in F x = record {
  facts = F;
  core = λ v. when (is_v v) (core_cell x v - 1);
  refill = λ v. when (is_v v) (refill_cell x v);
  period = λ v n. when (is_v v && is_n n) (period_cell x v n);
  lengths = λ v n. when (is_v v && is_n n) (lengths_cell x v n);
  begins = λ v n d. when (is_v v && is_n n) (mutex_with x at_begin v n d);
  ends = λ v n d. when (is_v v && is_n n) (mutex_with x at_end v n d);
}

-- the list goes with a view t of the board: they have the same VCPUs and tasks, and no number is too large to count with
pub record Paired (t x : List ℕ) : Type 0 where
  pub long : length x ≡ times_length
  pub same_vcpu : (v : ℕ) → InV v → seats.has_vcpu t v ≡ ltb 0 (core_cell x v)
  pub some_refill : (v : ℕ) → InV v → seats.has_vcpu t v ≡ ltb 0 (refill_cell x v)
  pub some_period : (v n : ℕ) → InV v → InN n → seats.has_task t v n ≡ ltb 0 (period_cell x v n)
  pub no_lengths : (v n : ℕ) → InV v → InN n → seats.has_task t v n ≡ false → lengths_cell x v n ≡ 0
  pub refill_to : (v : ℕ) → InV v → refill_cell x v ≤ max_period
  pub period_to : (v n : ℕ) → InV v → InN n → period_cell x v n ≤ max_period
  pub lengths_to : (v n : ℕ) → InV v → InN n → lengths_cell x v n ≤ 17000000

-- the sections of a task stand one behind the other: each has a tick at least, the places of locks that it does not have come last, and no section ends
-- beyond the lengths
pub record Ordered (x : List ℕ) : Type 0 where
  pub some_ticks : (v n j : ℕ) → InV v → InN n → 0 < j → j ≤ max_locks → 0 < lock_cell x at_mutex v n j → lock_cell x at_begin v n j < lock_cell x at_end v n j
  pub no_gap : (v n i j : ℕ) → InV v → InN n → 0 < i → i < j → j ≤ max_locks → 0 < lock_cell x at_mutex v n j → 0 < lock_cell x at_mutex v n i
  pub behind : (v n i j : ℕ) → InV v → InN n → 0 < i → i < j → j ≤ max_locks → 0 < lock_cell x at_mutex v n j → lock_cell x at_end v n i ≤ lock_cell x at_begin v n j
  pub in_lengths : (v n j : ℕ) → InV v → InN n → 0 < j → j ≤ max_locks → 0 < lock_cell x at_mutex v n j → lock_cell x at_end v n j ≤ lengths_cell x v n
