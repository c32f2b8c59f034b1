-- The text of one tick fits into a buffer of 131,072 bytes.
use Rattle.std.specs.Prelude.{ℕ, ◌≤◌, ◌≡◌, Bool, List, length}
use Rattle.std.proofs.Common.{arith}
use Rattle.plan.specs.declared.Policy.{Policy}
use Rattle.plan.specs.declared.OverrunChoice.{OverrunChoice}
use Rattle.board_rules.specs.View.{facts_in}
use Rattle.log_answers.specs.Small.{Small}
use Rattle.clock_rules.specs.Clock.{Timing, Run, events_at, max_horizon}
use Rattle.clock_rules.specs.Trace.{tick_text}
use Rattle.clock_times.specs.Times.{timing_in}
use Rattle.clock_marks.specs.Marks.{run_in}
use Rattle.clock_paced.specs.Paced.{Paced}
use Rattle.clock_steps.specs.RunTaken.{Kept, tick_accepted}
use Rattle.clock_lines.specs.Told.{RoomAt}
use Rattle.clock_going.specs.Going.{timing_by, Going}
use Rattle.clock_sizes.specs.Counts.{events_few}
use Rattle.clock_sizes.specs.Lows.{lines_small}

-- the bytes of a buffer for one tick
abbrev pub tick_room : ℕ
tick_room = 131072

-- of a state of a run, at a tick up to the latest horizon
module _ {T : Timing} (p : Paced T) (s : Small T.facts) {r : Run} (g : Kept T r) (t : ℕ) (h : t ≤ max_horizon) where
  -- 604 lines of 192 bytes
  pub tick_text_small : length (tick_text T t r) ≤ 115968
  unfolding tick_text
  tick_text_small =
      omega (arith, lines_small p.fair s t (omega arith) g.shaped g.is_good (events_at T t r) (tick_accepted p t g), events_few T t r)

  module _ (a : List ℕ) (l : length a ≡ tick_room) (on : Bool) where
    -- there is room for it at the begin of the buffer
    pub tick_room_law : RoomAt on (tick_text T t r) a 0
    tick_room_law e = omega (arith, tick_text_small)

-- as the clock's lists say the state
module _ {p : Policy} {o : OverrunChoice} {t x ls os : List ℕ} {ss : List Bool} {hs ws k : List ℕ} (g : Going p o t x ls os ss hs ws k) (s : Small (facts_in p o t)) (i : ℕ) (h : i ≤ max_horizon) (a : List ℕ) (l : length a ≡ tick_room) (on : Bool) where
  pub going_room : RoomAt on (tick_text (timing_by p o t x) i (run_in ls os ss hs ws k)) a 0
  unfolding timing_in
  going_room = tick_room_law g.paced s g.running i h a l on
