-- When the VCPUs and tasks of a plan recur next, in a list y of their own, so that a tick divides nothing and one without recurrence looks at two cells. Place i,
-- from 0: the VCPUs v at i = v - 1, then the tasks by seat s at i = 15 + s; then by v a tick not above the next release of any of its tasks, its row; then one
-- not above any next top, and one not above any row. x is the times of the plan, k the list that the clock keeps.
use Rattle.std.specs.Prelude.{ℕ, ◌+◌, ◌-◌, ◌*◌, ◌<◌, ◌≤◌, ◌≡◌, List, [], Bool, true, ◌&&◌, eqb, ltb, length, get_or}
use Rattle.std.specs.Prelude.{if◌then◌else◌}
use Rattle.laws.specs.Range.{any_to}
use Rattle.laws_picks.specs.Picks.{lowest}
use Rattle.plan.specs.Limits.{max_v, most_n, max_period}
use Rattle.board_seats.specs.Seats.{seat}
use Rattle.board_rules.specs.declared.Next.TheVariants.{Nobody}
use Rattle.board_keeps.specs.Fair.{InV, InN}
use Rattle.clock_rules.specs.Clock.{Timing, tops, missed, released}
use Rattle.clock_sets.specs.Sets.{in_set}
use Rattle.clock_times.specs.Times.{at_refill, at_lengths, times_length}
use Rattle.clock_marks.specs.Marks.{done_cell}

-- y is the least multiple of p that is not below t
pub record Least (p t y : ℕ) : Type 0 where
  pub times : ℕ
  pub is : y ≡ times * p
  pub from : t ≤ y
  pub near : y < t + p

-- how many recur
abbrev pub places : ℕ
places = max_v + max_v * most_n

-- the place of a seat
abbrev pub place_of : ℕ → ℕ
place_of s = max_v - 1 + s

abbrev pub period_at : List ℕ → ℕ → ℕ
period_at x i = get_or x (at_refill + i) 0

abbrev pub next_at : List ℕ → ℕ → ℕ
next_at y i = get_or y i 0

-- the next of task (v, n)
abbrev pub task_next : List ℕ → ℕ → ℕ → ℕ
task_next y v n = next_at y (place_of (seat v n))

-- the row of v
abbrev pub row_at : List ℕ → ℕ → ℕ
row_at y v = get_or y (places - 1 + v) 0

-- where the bound of all tops stands, and that of all rows
abbrev pub at_tops : ℕ
at_tops = places + max_v

abbrev pub at_jobs : ℕ
at_jobs = at_tops + 1

abbrev pub nexts_length : ℕ
nexts_length = at_jobs + 1

-- the next of one that the plan lacks
abbrev pub never : ℕ
never = 3000000

-- the one at place i recurs at tick t
abbrev pub is_due : List ℕ → ℕ → ℕ → Bool
is_due y t i = eqb (next_at y i) t

-- the job of (v, n) is released at tick t, and the one before it is unfinished
abbrev pub misses_at : List ℕ → List ℕ → List ℕ → ℕ → ℕ → ℕ → Bool
misses_at x k y t v n = is_due y t (place_of (seat v n)) && ltb (done_cell k v n) (get_or x (at_lengths - 1 + seat v n) 0)

-- some job of v is such; the first VCPU with one, 0 for none; its first task
abbrev pub misses_in : List ℕ → List ℕ → List ℕ → ℕ → ℕ → Bool
misses_in x k y t v = any_to most_n (misses_at x k y t v)

abbrev pub missed_v : List ℕ → List ℕ → List ℕ → ℕ → ℕ
missed_v x k y t = lowest max_v (misses_in x k y t)

abbrev pub missed_n : List ℕ → List ℕ → List ℕ → ℕ → ℕ → ℕ
missed_n x k y t v = lowest most_n (misses_at x k y t v)

-- THE LIST SAYS when each recurs next, from tick t on
pub record Nexts (x y : List ℕ) (t : ℕ) : Type 0 where
  pub long : length y ≡ nexts_length
  pub least : (i : ℕ) → i < places → 0 < period_at x i → Least (period_at x i) t (next_at y i)
  pub none : (i : ℕ) → i < places → period_at x i ≡ 0 → next_at y i ≡ never
  pub small : (i : ℕ) → i < places → next_at y i ≤ never
  pub rows_from : (v : ℕ) → InV v → t ≤ row_at y v
  pub rows_to : (v n : ℕ) → InV v → InN n → row_at y v ≤ task_next y v n
  pub tops_from : t ≤ get_or y at_tops 0
  pub tops_to_law : (i : ℕ) → i < max_v → get_or y at_tops 0 ≤ next_at y i
  pub jobs_from : t ≤ get_or y at_jobs 0
  pub jobs_to : (v : ℕ) → InV v → get_or y at_jobs 0 ≤ row_at y v

-- its parts: y is the next, from t on, of one with period p
pub record Coming (p t y : ℕ) : Type 0 where
  pub least : 0 < p → Least p t y
  pub none : p ≡ 0 → y ≡ never
  pub small : y ≤ never

-- the list says the next tops
pub record Tops (x y : List ℕ) (t : ℕ) : Type 0 where
  pub nexts : (i : ℕ) → i < max_v → Coming (period_at x i) t (next_at y i)
  pub tops_from : t ≤ get_or y at_tops 0
  pub tops_to_law : (i : ℕ) → i < max_v → get_or y at_tops 0 ≤ next_at y i

-- the next releases of v's tasks
pub record Row (x y : List ℕ) (t v : ℕ) : Type 0 where
  pub nexts : (n : ℕ) → InN n → Coming (period_at x (place_of (seat v n))) t (task_next y v n)
  pub row_from : t ≤ row_at y v
  pub row_to : (n : ℕ) → InN n → row_at y v ≤ task_next y v n

-- and all next releases
pub record Jobs (x y : List ℕ) (t : ℕ) : Type 0 where
  pub rows : (v : ℕ) → InV v → Row x y t v
  pub jobs_from : t ≤ get_or y at_jobs 0
  pub jobs_to : (v : ℕ) → InV v → get_or y at_jobs 0 ≤ row_at y v

-- no period is too large to count with
pub record Periods (x : List ℕ) : Type 0 where
  pub long : length x ≡ times_length
  pub to : (i : ℕ) → i < places → period_at x i ≤ max_period

-- the set has every VCPU that recurs
pub record HasTops (x : List ℕ) (all : ℕ) : Type 0 where
  pub is_set : all < 65536
  pub has : (v : ℕ) → InV v → 0 < period_at x (v - 1) → in_set all v ≡ true

-- the next of one with period p whose next was y, when tick t is over
abbrev pub renewed : ℕ → ℕ → ℕ → ℕ
renewed p y t = if eqb y t then t + p else y

-- all of them, by place
abbrev pub renewal : List ℕ → List ℕ → ℕ → ℕ → ℕ
renewal x y t j = renewed (period_at x j) (next_at y j) t

-- from y to y' the cells from a to before i become those of f, and all else is the same
pub record Wrote (f : ℕ → ℕ) (y y' : List ℕ) (a i : ℕ) : Type 0 where
  pub length_same : length y' ≡ length y
  pub new : (j : ℕ) → a ≤ j → j < i → get_or y' j 0 ≡ f j
  pub else_same : (j : ℕ) → (a ≤ j → j < i → ⊥) → get_or y' j 0 ≡ get_or y j 0

-- the sooner of two ticks
abbrev pub sooner : ℕ → ℕ → ℕ
sooner a b = if ltb a b then a else b

-- r is the least of f from a to before i, and never where these are none
pub record Soonest (f : ℕ → ℕ) (a i r : ℕ) : Type 0 where
  pub least : (j : ℕ) → a ≤ j → j < i → r ≤ f j
  pub most : (b : ℕ) → b ≤ never → ((j : ℕ) → a ≤ j → j < i → b ≤ f j) → b ≤ r

-- from y to y' the tops of tick t are renewed
pub record TopsRenewed (x y y' : List ℕ) (t : ℕ) : Type 0 where
  pub length_same : length y' ≡ length y
  pub tops : Tops x y' (t + 1)
  pub else_same : (j : ℕ) → max_v ≤ j → (j ≡ at_tops → ⊥) → get_or y' j 0 ≡ get_or y j 0

-- from y to y' the row of v is renewed
pub record RowRenewed (x y y' : List ℕ) (t v : ℕ) : Type 0 where
  pub length_same : length y' ≡ length y
  pub row : Row x y' (t + 1) v
  pub else_same : (j : ℕ) → (place_of (seat v 1) ≤ j → j < place_of (seat v 1) + most_n → ⊥) → (j ≡ places - 1 + v → ⊥) → get_or y' j 0 ≡ get_or y j 0

-- from y to y' the rows of the first v VCPUs are
pub record RowsRenewed (x y y' : List ℕ) (t v : ℕ) : Type 0 where
  pub within : v ≤ max_v
  pub length_same : length y' ≡ length y
  pub past : (w : ℕ) → 0 < w → w ≤ v → Row x y' (t + 1) w
  pub else_same : (j : ℕ) → (max_v ≤ j → j < max_v + v * most_n → ⊥) → (places ≤ j → j < places + v → ⊥) → get_or y' j 0 ≡ get_or y j 0

-- from y to y' all the rows, and their bound
pub record JobsRenewed (x y y' : List ℕ) (t : ℕ) : Type 0 where
  pub length_same : length y' ≡ length y
  pub jobs : Jobs x y' (t + 1)
  pub else_same : (j : ℕ) → (max_v ≤ j → j < at_tops → ⊥) → (j ≡ at_jobs → ⊥) → get_or y' j 0 ≡ get_or y j 0

-- NOTHING RECURS at tick t
pub record Quiet (T : Timing) (t : ℕ) : Type 0 where
  pub tops_none : tops T t ≡ []
  pub missed_none : (d : List ℕ) → missed T t d ≡ Nobody
  pub released_none : (d : List ℕ) → length d ≡ max_v * most_n → released T t d ≡ d
