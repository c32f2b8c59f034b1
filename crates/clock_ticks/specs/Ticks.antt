-- What a tick of the clock leaves: view and x are the plan's, ls, os, ss, hs, ws the board's arrays, k what is kept beside them, and y when each recurs next.
use Rattle.std.specs.Prelude.{ℕ, ◌+◌, ◌-◌, ◌≤◌, ◌≡◌, List, Bool}
use Rattle.plan.specs.Limits.{max_v, most_n}
use Rattle.plan.specs.declared.Policy.{Policy}
use Rattle.plan.specs.declared.OverrunChoice.{OverrunChoice}
use Rattle.board_rules.specs.Board.{next_of}
use Rattle.clock_rules.specs.Clock.{Run, missed, tick}
use Rattle.clock_rules.specs.Trace.{tick_text}
use Rattle.clock_marks.specs.Marks.{run_in}
use Rattle.clock_lines.specs.Told.{told_at, told_to}
use Rattle.clock_nexts.specs.Nexts.{Nexts}
use Rattle.clock_going.specs.Going.{timing_by, Going}

-- tick t is over, from the state r on
pub record Over (p : Policy) (o : OverrunChoice) (view x : List ℕ) (t : ℕ) (r : Run) (ls os : List ℕ) (ss : List Bool) (hs ws k y : List ℕ) : Type 0 where
  pub going : Going p o view x ls os ss hs ws k
  pub after : run_in ls os ss hs ws k ≡ tick (timing_by p o view x) t r
  pub nexts : Nexts x y (t + 1)

-- tick t from the state r on: (v, n) is the task whose job is missed, 0 and 0 for none
pub record Passing (p : Policy) (o : OverrunChoice) (view x : List ℕ) (t : ℕ) (r : Run) (ls os : List ℕ) (ss : List Bool) (hs ws k y : List ℕ) (v n : ℕ) : Type 0 where
  pub first_missed : missed (timing_by p o view x) t r.done ≡ next_of v n
  pub v_to : v ≤ max_v
  pub n_to : n ≤ most_n
  pub over : n ≡ 0 → Over p o view x t r ls os ss hs ws k y

-- the tick is told: a is the buffer that is written to, a' the buffer then, and w where the text ends
pub record Ticking (p : Policy) (o : OverrunChoice) (view x : List ℕ) (on : Bool) (t : ℕ) (r : Run) (a : List ℕ)
    (ls os : List ℕ) (ss : List Bool) (hs ws k y a' : List ℕ) (w v n : ℕ) : Type 0 where
  pub text : a' ≡ told_at on (tick_text (timing_by p o view x) t r) a 0
  pub size : w ≡ told_to on (tick_text (timing_by p o view x) t r) 0
  pub passing : Passing p o view x t r ls os ss hs ws k y v n
