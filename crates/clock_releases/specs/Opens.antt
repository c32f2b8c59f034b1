-- How a tick opens: the tops that are due, then, where no job is missed, the releases. x is the times of the plan, k the list that the clock keeps, y when each
-- recurs next, b the board and a the buffer into which is told behind its first `at` bytes; a prime is on what is there afterwards.
use Rattle.std.specs.Prelude.{ℕ, ◌+◌, ◌-◌, ◌*◌, ◌<◌, ◌≤◌, ◌≡◌, List, Bool, true, ◌⊎◌, ltb, length, get_or}
use Rattle.std.specs.Prelude.{if◌then◌else◌}
use Rattle.plan.specs.Limits.{max_v, most_n}
use Rattle.plan.specs.declared.Policy.{Policy}
use Rattle.plan.specs.declared.OverrunChoice.{OverrunChoice}
use Rattle.board_seats.specs.Seats.{seat}
use Rattle.board_rules.specs.Facts.{Facts}
use Rattle.board_rules.specs.View.{facts_in}
use Rattle.board_rules.specs.declared.Board.{Board}
use Rattle.board_rules.specs.Board.{next_of}
use Rattle.board_keeps.specs.Fair.{InV}
use Rattle.clock_rules.specs.Clock.{tops, missed, opened}
use Rattle.clock_rules.specs.Trace.{lines_at}
use Rattle.clock_times.specs.Times.{at_lengths, timing_in, Ordered}
use Rattle.clock_marks.specs.Marks.{at_done, board_of, run_in, done_in, Sized, Mirrors}
use Rattle.clock_marks.specs.Changes.{PutReady}
use Rattle.clock_paced.specs.Paced.{Paced}
use Rattle.clock_lines.specs.Told.{told_at, told_to}
use Rattle.clock_nexts.specs.Nexts.{place_of, is_due, missed_v, missed_n, Nexts, Tops, Jobs}
use Rattle.clock_mirrors.specs.Writes.{PutJob}
use Rattle.clock_going.specs.Going.{timing_by, Going}

-- THE FIRST MISSED JOB is that of (v, n)
pub record MissedJob (x k y : List ℕ) (t v n : ℕ) : Type 0 where
  pub is_v_law : v ≡ missed_v x k y t
  pub v_in : InV v
  pub is_n_law : n ≡ missed_n x k y t v
  pub n_to : n ≤ most_n

-- THE RELEASES. The job of (v, n) begins
pub record Release (x k k' : List ℕ) (v n : ℕ) : Type 0 where
  pub mid : List ℕ
  pub job : PutJob k mid v n 0 0
  pub ready : PutReady mid k' v n (ltb 0 (get_or x (at_lengths - 1 + seat v n) 0))
  pub sized : Sized k'

-- no task whose job is released waits
pub record Idle (y ws : List ℕ) (t : ℕ) : Type 0 where
  pub none : (s : ℕ) → 0 < s → s ≤ max_v * most_n → is_due y t (place_of s) ≡ true → get_or ws (s - 1) 0 ≡ 0

-- of the seats behind r, up to s, those that are due are released
pub record Releases (x k y : List ℕ) (t r s : ℕ) (k' : List ℕ) : Type 0 where
  pub sized : Sized k'
  pub past : (j : ℕ) → r < j → j ≤ s → get_or k' (at_done + j) 0 ≡ (if is_due y t (place_of j) then 0 else get_or k (at_done + j) 0)
  pub rest : (j : ℕ) → j ≤ max_v * most_n → (r < j → j ≤ s → ⊥) → get_or k' (at_done + j) 0 ≡ get_or k (at_done + j) 0
  pub mirrors : (F : Facts) (b : Board) → Paced (timing_in F x) → Ordered x → Idle y b.waits t → Mirrors (timing_in F x) x b k → Mirrors (timing_in F x) x b k'

-- nobody misses, all that are due are released, and y' says when the tasks recur next
pub record JobsMade (x k y : List ℕ) (t : ℕ) (k' y' : List ℕ) : Type 0 where
  pub none_missed : 0 ≡ missed_v x k y t
  pub released : Releases x k y t 0 (max_v * most_n) k'
  pub length_same : length y' ≡ length y
  pub nexts : Jobs x y' (t + 1)
  pub tops_kept : (u : ℕ) → Tops x y u → Tops x y' u

-- the one or the other, where v and n are 0 for nobody
abbrev pub Jobbed : List ℕ → List ℕ → List ℕ → ℕ → List ℕ → List ℕ → ℕ → ℕ → Type 0
Jobbed x k y t k' y' v n = MissedJob x k y t v n ⊎ ((v ≡ 0) × (n ≡ 0) × JobsMade x k y t k' y')

-- THE TICK IS OPEN, where no job is missed: what then holds of the lists
pub record Opens (p : Policy) (o : OverrunChoice) (view x : List ℕ) (t : ℕ) (ls os : List ℕ) (ss : List Bool) (hs ws k ls' os' : List ℕ) (ss' : List Bool) (k' y' : List ℕ) : Type 0 where
  pub going : Going p o view x ls' os' ss' hs ws k'
  pub board : board_of ls' os' ss' hs ws ≡ (opened (timing_by p o view x) t (run_in ls os ss hs ws k)).board
  pub done : done_in k' ≡ (opened (timing_by p o view x) t (run_in ls os ss hs ws k)).done
  pub nexts : Nexts x y' (t + 1)

-- the tops are told up to w, and the first missed job is that of (v, n), both 0 for none
pub record Opening (p : Policy) (o : OverrunChoice) (view x : List ℕ) (on : Bool) (t : ℕ) (ls os : List ℕ) (ss : List Bool) (hs ws k a : List ℕ) (at : ℕ)
    (ls' os' : List ℕ) (ss' : List Bool) (k' y' a' : List ℕ) (w v n : ℕ) : Type 0 where
  pub text : a' ≡ told_at on (lines_at (facts_in p o view) t (board_of ls os ss hs ws) (tops (timing_by p o view x) t)) a at
  pub size : w ≡ told_to on (lines_at (facts_in p o view) t (board_of ls os ss hs ws) (tops (timing_by p o view x) t)) at
  pub first_missed : missed (timing_by p o view x) t (done_in k) ≡ next_of v n
  pub v_to : v ≤ max_v
  pub n_to : n ≤ most_n
  pub v_some : 0 < n → 0 < v
  pub opens : n ≡ 0 → Opens p o view x t ls os ss hs ws k ls' os' ss' k' y'
