-- What the functions here say of what they do: t is the view of the plan and x its times, ls, os, ss, hs, ws the board's arrays, and k what is kept beside them.
use Rattle.std.specs.Prelude.{ℕ, ◌<◌, ◌≡◌, List, Bool}
use Rattle.plan.specs.declared.Policy.{Policy}
use Rattle.plan.specs.declared.OverrunChoice.{OverrunChoice}
use Rattle.board_rules.specs.declared.Board.{Board}
use Rattle.board_rules.specs.declared.Event.{Event}
use Rattle.board_rules.specs.Board.{next_of}
use Rattle.board_rules.specs.View.{facts_in}
use Rattle.clock_rules.specs.Clock.{Timing, Run}
use Rattle.clock_marks.specs.Marks.{run_in, done_in}
use Rattle.clock_steps.specs.AskTurn.{Working}
use Rattle.clock_going.specs.Going.{Going, Made}

-- the events es are made and told at tick i, from the state r on, and lead to the state r', which the lists say; o is a buffer that is written to behind its first
-- `at` bytes, o' the buffer then, and w where the text goes on
pub record Turned (p : Policy) (c : OverrunChoice) (t x : List ℕ) (on : Bool) (i : ℕ) (r r' : Run) (es : List Event) (ls os : List ℕ) (ss : List Bool) (hs ws k o : List ℕ) (at : ℕ) (o' : List ℕ) (w : ℕ) : Type 0 where
  pub going : Going p c t x ls os ss hs ws k
  pub after : run_in ls os ss hs ws k ≡ r'
  pub made : Made (facts_in p c t) on i r (run_in ls os ss hs ws k) es o at o' w

-- the same of a part of a turn, after which the ticks done are d
pub record Did (p : Policy) (c : OverrunChoice) (t x : List ℕ) (on : Bool) (i : ℕ) (r : Run) (es : List Event) (d : List ℕ) (ls os : List ℕ) (ss : List Bool) (hs ws k o : List ℕ) (at : ℕ) (o' : List ℕ) (w : ℕ) : Type 0 where
  pub going : Going p c t x ls os ss hs ws k
  pub made : Made (facts_in p c t) on i r (run_in ls os ss hs ws k) es o at o' w
  pub done : done_in k ≡ d

-- (v, n) is what some core picked, nobody where v is 0
pub record Uses (T : Timing) (b : Board) (d : List ℕ) (v n : ℕ) : Type 0 where
  pub core : ℕ
  pub working : Working T core b d (next_of v n)
  pub nobody : v ≡ 0 → n ≡ 0
  pub somebody : 0 < v → 0 < n
