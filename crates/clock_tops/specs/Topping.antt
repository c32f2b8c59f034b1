-- The tops of a tick that are due. x is the times of the plan, k the list that the clock keeps, y when each recurs next, b the board and a the buffer into which is told
-- behind its first `at` bytes; a prime is on what is there afterwards.
use Rattle.std.specs.Prelude.{ℕ, ◌+◌, ◌-◌, ◌<◌, ◌≤◌, ◌≡◌, List, [], ◌∷◌, Bool, true, ltb, length, get_or}
use Rattle.std.specs.Prelude.{if◌then◌else◌}
use Rattle.laws.specs.Range.{flat_to}
use Rattle.plan.specs.Limits.{max_v}
use Rattle.plan.specs.declared.OverrunChoice.{OverrunChoice}
use Rattle.board_rules.specs.Facts.{Facts}
use Rattle.board_rules.specs.declared.Board.{Board}
use Rattle.board_rules.specs.declared.Event.{Event}
use Rattle.board_rules.specs.declared.Event.TheVariants.{Top}
use Rattle.board_rules.specs.Board.{left_of, over_of, is_stopped, step}
use Rattle.board_events.specs.Events.{board_after}
use Rattle.board_keeps.specs.Fair.{InV}
use Rattle.clock_rules.specs.Trace.{event_line, lines_at}
use Rattle.clock_sets.specs.Sets.{in_set}
use Rattle.clock_times.specs.Times.{timing_in}
use Rattle.clock_marks.specs.Marks.{at_ready, spares, Mirrors}
use Rattle.clock_lines.specs.Told.{told_at, told_to}
use Rattle.clock_nexts.specs.Nexts.{nexts_length, is_due, Tops, Jobs}
use Rattle.clock_puts.specs.Puts.{PutSupply}

-- THE TOPS of tick t that are due, of VCPU v and of the first v VCPUs
abbrev pub top_at : List ℕ → ℕ → ℕ → List Event
top_at y t v = if is_due y t (v - 1) then Top v ∷ [] else []

abbrev pub tops_to : List ℕ → ℕ → ℕ → List Event
tops_to y t v = flat_to v (λ w. top_at y t w)

-- `top v` is made and told, and the list has its supply
pub record OneTop (F : Facts) (o : OverrunChoice) (on : Bool) (t v : ℕ) (b : Board) (k a : List ℕ) (at : ℕ) (b' : Board) (k' a' : List ℕ) (w : ℕ) : Type 0 where
  pub board : b' ≡ (step F b (Top v)).board
  pub supply : PutSupply k k' v (ltb 0 (left_of b' v)) (spares o (is_stopped b' v) (over_of b' v))
  pub text : a' ≡ told_at on (event_line t (Top v) (step F b (Top v)).answer) a at
  pub size : w ≡ told_to on (event_line t (Top v) (step F b (Top v)).answer) at

-- the tops of the first v VCPUs are made and told
pub record Topped (F : Facts) (x : List ℕ) (on : Bool) (t : ℕ) (b : Board) (k y a : List ℕ) (at v : ℕ) (b' : Board) (k' a' : List ℕ) (w : ℕ) : Type 0 where
  pub within : v ≤ max_v
  pub board : b' ≡ board_after F b (tops_to y t v)
  pub mirrors : Mirrors (timing_in F x) x b' k'
  pub else_same : (j : ℕ) → at_ready ≤ j → get_or k' j 0 ≡ get_or k j 0
  pub text : a' ≡ told_at on (lines_at F t b (tops_to y t v)) a at
  pub size : w ≡ told_to on (lines_at F t b (tops_to y t v)) at

-- the set has every VCPU that is due
pub record DueIn (y : List ℕ) (t all : ℕ) : Type 0 where
  pub is_set : all < 65536
  pub has : (v : ℕ) → InV v → is_due y t (v - 1) ≡ true → in_set all v ≡ true

-- of the set's VCPUs the tops are made but for those that are still in it: those of the first `upto` are made
pub record Walking (F : Facts) (x : List ℕ) (on : Bool) (t : ℕ) (b : Board) (k y a : List ℕ) (at rest : ℕ) (b' : Board) (k' a' : List ℕ) (w : ℕ) : Type 0 where
  pub upto : ℕ
  pub topped : Topped F x on t b k y a at upto b' k' a' w
  pub is_set : rest < 65536
  pub above : (v : ℕ) → InV v → in_set rest v ≡ true → upto < v
  pub ahead : (v : ℕ) → InV v → upto < v → is_due y t (v - 1) ≡ true → in_set rest v ≡ true

-- all that are due are made, and y' says when the VCPUs recur next
pub record TopsMade (F : Facts) (x : List ℕ) (on : Bool) (t : ℕ) (b : Board) (k y a : List ℕ) (at : ℕ) (b' : Board) (k' y' a' : List ℕ) (w : ℕ) : Type 0 where
  pub topped : Topped F x on t b k y a at max_v b' k' a' w
  pub long : length y' ≡ nexts_length
  pub nexts : Tops x y' (t + 1)
  pub jobs : Jobs x y' t
