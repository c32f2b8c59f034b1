-- What the clock keeps beside the board's arrays, in one list of numbers k: sets of VCPUs and of tasks, so that a pick walks over nobody, what each task
-- holds, the ticks that each job has done, and how many of its sections have ended.
use Rattle.std.specs.Prelude.{ℕ, ◌+◌, ◌*◌, ◌<◌, ◌≤◌, ◌≡◌, List, Bool, false, ◌&&◌, not, eqb, ltb, length, get_or}
use Rattle.std.specs.Prelude.{if◌then◌else◌}
use Rattle.plan.specs.Limits.{max_v, max_m, most_n, max_locks, max_core}
use Rattle.plan.specs.declared.OverrunChoice.{OverrunChoice}
use Rattle.plan.specs.declared.OverrunChoice.TheVariants.{WithOverrun, WithoutOverrun}
use Rattle.board_seats.specs.Seats.{seat}
use Rattle.board_rules.specs.Facts.{Facts}
use Rattle.board_rules.specs.declared.Board.{Board}
pub use Rattle.board_rules.specs.Lent.{board_of}
use Rattle.board_rules.specs.Board.{left_of, over_of, is_stopped, holds_global, held_global, held_local}
use Rattle.clock_times.specs.Fair.{InV, InN}
use Rattle.clock_times.specs.Clock.{Timing, Run, by_seat, is_ready, has_ready, is_on}
use Rattle.clock_sets.specs.Sets.{in_set}
use Rattle.clock_times.specs.Times.{at_end, at_mutex, lock_cell}

-- WHERE EACH KIND BEGINS. The sets of VCPUs: those with budget, those whose overrun would count under a global mutex, those with a ready task, those whose
-- tasks hold a global mutex
abbrev pub at_budget : ℕ
at_budget = 0

abbrev pub at_spare : ℕ
at_spare = 1

abbrev pub at_ready : ℕ
at_ready = 2

abbrev pub at_holding : ℕ
at_holding = 3

-- by v, from 1: the set of its ready tasks, and of its tasks that hold a mutex
abbrev pub at_tasks : ℕ
at_tasks = 3

abbrev pub at_holders : ℕ
at_holders = at_tasks + max_v

-- by seat, from 1: what the task holds; the ticks that its job has done; how many of its sections have ended
abbrev pub at_held : ℕ
at_held = at_holders + max_v

abbrev pub at_done : ℕ
at_done = at_held + max_v * most_n

abbrev pub at_place : ℕ
at_place = at_done + max_v * most_n

-- by core, from 0: the set of its VCPUs
abbrev pub at_cores : ℕ
at_cores = at_place + max_v * most_n + 1

abbrev pub marks_length : ℕ
marks_length = at_cores + max_core + 1

abbrev pub tasks_cell : List ℕ → ℕ → ℕ
tasks_cell k v = get_or k (at_tasks + v) 0

abbrev pub holders_cell : List ℕ → ℕ → ℕ
holders_cell k v = get_or k (at_holders + v) 0

abbrev pub held_cell : List ℕ → ℕ → ℕ → ℕ
held_cell k v n = get_or k (at_held + seat v n) 0

abbrev pub done_cell : List ℕ → ℕ → ℕ → ℕ
done_cell k v n = get_or k (at_done + seat v n) 0

abbrev pub place_cell : List ℕ → ℕ → ℕ → ℕ
place_cell k v n = get_or k (at_place + seat v n) 0

-- the ticks done, by seat
abbrev pub done_in : List ℕ → List ℕ
done_in k = by_seat (λ v n. done_cell k v n)

-- the state of a run that the lists say
abbrev pub run_in : List ℕ → List ℕ → List Bool → List ℕ → List ℕ → List ℕ → Run
run_in ls os ss hs ws k = record { board = board_of ls os ss hs ws; done = done_in k }

-- the overrun of a VCPU would count, if its tasks held a global mutex
abbrev pub spares : OverrunChoice → Bool → ℕ → Bool
spares WithOverrun stopped o = not stopped && ltb 0 o
spares WithoutOverrun stopped o = false

-- what task (v, n) holds: 33 for a global mutex, else the local mutex of v that it holds, 0 for none
abbrev pub global_mark : ℕ
global_mark = max_m + 1

abbrev pub held_by : Facts → Board → ℕ → ℕ → ℕ
held_by F b v n = if held_global F b v n then global_mark else held_local F b v n

-- q of the sections of (v, n) have ended when d ticks are done
pub record Ended (x : List ℕ) (v n d q : ℕ) : Type 0 where
  pub to : q ≤ max_locks
  pub past : (j : ℕ) → 0 < j → j ≤ q → lock_cell x at_end v n j ≤ d
  pub coming : (j : ℕ) → q < j → j ≤ max_locks → 0 < lock_cell x at_mutex v n j → d < lock_cell x at_end v n j

-- the list is long enough, and its sets are sets
pub record Sized (k : List ℕ) : Type 0 where
  pub long : length k ≡ marks_length
  pub sets : (i : ℕ) → i ≤ at_holding → get_or k i 0 < 65536
  pub core_sets : (c : ℕ) → c ≤ max_core → get_or k (at_cores + c) 0 < 65536
  pub few_tasks : (v : ℕ) → InV v → tasks_cell k v < 256
  pub few_holders : (v : ℕ) → InV v → holders_cell k v < 256

-- WHAT THE LIST SAYS of the board b and the timing T, whose times are x
pub record Mirrors (T : Timing) (x : List ℕ) (b : Board) (k : List ℕ) : Type 0 where
  pub sized : Sized k
  pub cores : (c v : ℕ) → c ≤ max_core → InV v → in_set (get_or k (at_cores + c) 0) v ≡ is_on T c v
  pub budget : (v : ℕ) → InV v → in_set (get_or k at_budget 0) v ≡ ltb 0 (left_of b v)
  pub spare : (v : ℕ) → InV v → in_set (get_or k at_spare 0) v ≡ spares T.facts.choice (is_stopped b v) (over_of b v)
  pub ready : (v : ℕ) → InV v → in_set (get_or k at_ready 0) v ≡ has_ready T b (done_in k) v
  pub holding : (v : ℕ) → InV v → in_set (get_or k at_holding 0) v ≡ holds_global T.facts b v
  pub tasks : (v n : ℕ) → InV v → InN n → in_set (tasks_cell k v) n ≡ is_ready T b (done_in k) v n
  pub holders : (v n : ℕ) → InV v → InN n → in_set (holders_cell k v) n ≡ not (eqb (held_cell k v n) 0)
  pub held : (v n : ℕ) → InV v → InN n → held_cell k v n ≡ held_by T.facts b v n
  pub placed : (v n : ℕ) → InV v → InN n → done_cell k v n < T.lengths v n → Ended x v n (done_cell k v n) (place_cell k v n)
