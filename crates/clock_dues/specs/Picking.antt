-- What the picks of the clock say, by the list k that it keeps beside the board: x are the times, t the view of the board, ws the waits, hs the holders.
use Rattle.std.specs.Prelude.{ℕ, ◌+◌, ◌-◌, ◌*◌, ◌<◌, max, ◌≡◌, List, Bool, ◌&&◌, ◌||◌, not, eqb, ltb, get_or}
use Rattle.std.specs.Prelude.{if◌then◌else◌}
use Rattle.plan.specs.Limits.{max_locks, task_raise}
use Rattle.plan.specs.declared.Policy.{Policy}
use Rattle.plan.specs.declared.OverrunChoice.{OverrunChoice}
use Rattle.board_seats.specs.Seats.{seat, ceiling_of}
use Rattle.board_walks.specs.Walks.{local_under}
use Rattle.board_rules.specs.Facts.{Facts}
use Rattle.board_rules.specs.View.{facts_in}
use Rattle.board_rules.specs.declared.Board.{Board}
use Rattle.board_rules.specs.Board.{left_of}
use Rattle.board_keeps.specs.Fair.{InV}
use Rattle.clock_rules.specs.Clock.{Timing, has_ready, is_on, pick_v, pick_n, due_of}
use Rattle.clock_sets.specs.Sets.{in_set}
use Rattle.clock_times.specs.Times.{at_mutex, lengths_cell, timing_in, Ordered}
use Rattle.clock_marks.specs.Marks.{at_cores, at_budget, at_spare, at_ready, at_holding, global_mark, done_cell, done_in, Mirrors}

-- v is on core c, has a ready task and is awake, as the sets say it
abbrev pub is_candidate : List ℕ → ℕ → ℕ → Bool
is_candidate k c v =
    (in_set (get_or k (at_cores + c) 0) v && in_set (get_or k at_ready 0) v)
    && (in_set (get_or k at_budget 0) v || (in_set (get_or k at_spare 0) v && in_set (get_or k at_holding 0) v))

-- the priority of task (v, n), which holds m: `global_mark` is a global mutex, 0 none
abbrev pub rank_of : List ℕ → List ℕ → ℕ → ℕ → ℕ → ℕ
rank_of t ws v m n = if eqb m 0 then n else (if eqb m global_mark then task_raise + n else max n (local_under t ws v (ceiling_of t m)))

-- the mutex of section q + 1 of (v, n), if d stands for it in the part of the times that begins at `part`; 0 for none
abbrev pub mutex_at : List ℕ → ℕ → ℕ → ℕ → ℕ → ℕ → ℕ
mutex_at x part v n q d =
    if ltb q max_locks
    then (if eqb (get_or x (part + ((seat v n - 1) * max_locks + q)) 0) d then get_or x (at_mutex + ((seat v n - 1) * max_locks + q)) 0 else 0)
    else 0

-- r IS WHAT THE CLOCK ASKS, of every board that k goes with: the VCPU that core c picks,
abbrev pub PicksV : List ℕ → ℕ → ℕ → Type 0
PicksV k c r = (T : Timing) (x : List ℕ) (b : Board) → Mirrors T x b k → r ≡ pick_v T c b (done_in k)

-- the task that is picked in v,
abbrev pub PicksN : List ℕ → List ℕ → List ℕ → ℕ → ℕ → Type 0
PicksN t ws k v r =
    (p : Policy) (o : OverrunChoice) (x : List ℕ) (b : Board) → b.waits ≡ ws → Mirrors (timing_in (facts_in p o t) x) x b k
    → r ≡ pick_n (timing_in (facts_in p o t) x) b (done_in k) v

-- the mutex for which (v, n), with an unfinished job, is to ask,
abbrev pub IsDue : List ℕ → List ℕ → List ℕ → ℕ → ℕ → ℕ → Type 0
IsDue x hs k v n r =
    (F : Facts) (b : Board) → b.holder ≡ hs → Ordered x → Mirrors (timing_in F x) x b k → done_cell k v n < lengths_cell x v n
    → r ≡ due_of (timing_in F x) b (done_in k) v n

-- the mutex whose section it finishes with one more tick,
abbrev pub IsOver : List ℕ → List ℕ → ℕ → ℕ → ℕ → Type 0
IsOver x k v n r =
    (F : Facts) (b : Board) → Ordered x → Mirrors (timing_in F x) x b k → done_cell k v n < lengths_cell x v n
    → r ≡ (timing_in F x).ends v n (done_cell k v n + 1)

-- the VCPUs of core c with budget and no ready task
abbrev pub Idlers : List ℕ → ℕ → ℕ → Type 0
Idlers k c r =
    (T : Timing) (x : List ℕ) (b : Board) → Mirrors T x b k → (v : ℕ) → InV v
    → in_set r v ≡ (is_on T c v && (ltb 0 (left_of b v) && not (has_ready T b (done_in k) v)))
