-- What holds of a run between its ticks: view and x are the plan's, ls, os, ss, hs, ws the board's arrays, k what is kept beside them, and y when each recurs
-- next.
use Rattle.std.specs.Prelude.{ℕ, ◌+◌, ◌-◌, ◌<◌, ◌≤◌, ◌≡◌, List, Bool, ◌⊎◌}
use Rattle.plan.specs.declared.Policy.{Policy}
use Rattle.plan.specs.declared.OverrunChoice.{OverrunChoice}
use Rattle.clock_rules.specs.Clock.{Run, cores, after_turns, tick, run_from}
use Rattle.clock_marks.specs.Marks.{board_of, run_in, done_in}
use Rattle.clock_nexts.specs.Nexts.{Nexts}
use Rattle.clock_going.specs.Going.{timing_by, Going}
use Rattle.clock_strides.specs.Spends.{Counted}

-- THE RUN to h has come to tick t, from the state r at tick 0 on,
pub record Reached (p : Policy) (o : OverrunChoice) (view x : List ℕ) (h : ℕ) (r : Run) (t : ℕ) (ls os : List ℕ) (ss : List Bool) (hs ws k y : List ℕ) : Type 0 where
  pub going : Going p o view x ls os ss hs ws k
  pub nexts : Nexts x y t
  pub within : t ≤ h
  pub rest : run_from (timing_by p o view x) (h - t) t (run_in ls os ss hs ws k) ≡ run_from (timing_by p o view x) h 0 r

-- or to its turns: the tick is open
pub record Halfway (p : Policy) (o : OverrunChoice) (view x : List ℕ) (h : ℕ) (r : Run) (t : ℕ) (ls os : List ℕ) (ss : List Bool) (hs ws k y : List ℕ) : Type 0 where
  pub going : Going p o view x ls os ss hs ws k
  pub nexts : Nexts x y (t + 1)
  pub early : t < h
  pub rest : run_from (timing_by p o view x) (h - (t + 1)) (t + 1) (after_turns (timing_by p o view x) cores (run_in ls os ss hs ws k)) ≡ run_from (timing_by p o view x) h 0 r

-- and so much is known
pub record Known (p : Policy) (o : OverrunChoice) (view x : List ℕ) (h : ℕ) (r : Run) (t : ℕ) (ls os : List ℕ) (ss : List Bool) (hs ws k y pl : List ℕ) : Type 0 where
  pub came : Reached p o view x h r t ls os ss hs ws k y ⊎ Halfway p o view x h r t ls os ss hs ws k y
  pub counted : Counted (timing_by p o view x) (board_of ls os ss hs ws) (done_in k) pl
