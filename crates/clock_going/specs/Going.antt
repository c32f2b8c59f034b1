-- What holds of the clock's lists between the parts of a tick: t is the view of the plan and x its times, ls, os, ss, hs, ws the board's arrays, and k what is
-- kept beside them.
use Rattle.std.specs.Prelude.{ℕ, ◌≡◌, List, Bool}
use Rattle.plan.specs.declared.Policy.{Policy}
use Rattle.plan.specs.declared.OverrunChoice.{OverrunChoice}
use Rattle.board_rules.specs.Facts.{Facts}
use Rattle.board_rules.specs.View.{facts_in}
use Rattle.board_rules.specs.declared.Event.{Event}
use Rattle.board_events.specs.Events.{board_after}
use Rattle.clock_rules.specs.Clock.{Timing, Run}
use Rattle.clock_rules.specs.Trace.{lines_at}
use Rattle.clock_times.specs.Times.{timing_in, Paired, Ordered}
use Rattle.clock_marks.specs.Marks.{board_of, done_in, Mirrors}
use Rattle.clock_paced.specs.Paced.{Paced}
use Rattle.clock_steps.specs.Running.{Running}
use Rattle.clock_lines.specs.Told.{told_at, told_to}

-- the timing that a view and the times say
abbrev pub timing_by : Policy → OverrunChoice → List ℕ → List ℕ → Timing
timing_by p o t x = timing_in (facts_in p o t) x

pub record Going (p : Policy) (o : OverrunChoice) (t x ls os : List ℕ) (ss : List Bool) (hs ws k : List ℕ) : Type 0 where
  pub paired : Paired t x
  pub ordered : Ordered x
  pub paced : Paced (timing_by p o t x)
  pub running : Running (timing_by p o t x) (board_of ls os ss hs ws) (done_in k)
  pub mirrors : Mirrors (timing_by p o t x) x (board_of ls os ss hs ws) k

-- the events es, made at tick i from the state of r, lead to the state of r' (whose ticks done may differ besides), and are told: w is where the text goes on, and
-- b the buffer then
pub record Made (F : Facts) (on : Bool) (i : ℕ) (r r' : Run) (es : List Event) (a : List ℕ) (at : ℕ) (b : List ℕ) (w : ℕ) : Type 0 where
  pub board : r'.board ≡ board_after F r.board es
  pub text : b ≡ told_at on (lines_at F i r.board es) a at
  pub size : w ≡ told_to on (lines_at F i r.board es) at
