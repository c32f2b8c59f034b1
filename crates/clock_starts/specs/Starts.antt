-- The clock's lists before tick 0: t is the view of the plan and x its times, ls, os, ss, hs, ws the board's arrays, k what is kept beside them, and y when each
-- VCPU and task recurs next.
use Rattle.std.specs.Prelude.{ℕ, ◌≡◌, List, Bool}
use Rattle.plan.specs.declared.Policy.{Policy}
use Rattle.plan.specs.declared.OverrunChoice.{OverrunChoice}
use Rattle.clock_rules.specs.Clock.{at_first}
use Rattle.clock_marks.specs.Marks.{board_of, done_in}
use Rattle.clock_nexts.specs.Nexts.{Nexts}
use Rattle.clock_going.specs.Going.{timing_by, Going}

-- THE LISTS ARE THOSE OF A RUN BEFORE TICK 0: they say its state, mirror it, and all recur at tick 0
pub record Started (o : OverrunChoice) (t x ls os : List ℕ) (ss : List Bool) (hs ws k y : List ℕ) : Type 0 where
  pub going : (p : Policy) → Going p o t x ls os ss hs ws k
  pub board_first : (p : Policy) → board_of ls os ss hs ws ≡ (at_first (timing_by p o t x)).board
  pub done_first : (p : Policy) → done_in k ≡ (at_first (timing_by p o t x)).done
  pub nexts : Nexts x y 0
