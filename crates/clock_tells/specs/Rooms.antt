-- A tick's text has room in the buffer, and so has the line of a missed job after it.
use Rattle.std.specs.Prelude.{ℕ, ◌≤◌, ◌≡◌, List, Bool, true, length}
use Rattle.std.proofs.Math.Path.{refl}
use Rattle.std.proofs.Common.{sym, ap, ◌∙◌, arith, length-take-le}
use Rattle.plan.specs.declared.Policy.{Policy}
use Rattle.plan.specs.declared.OverrunChoice.{OverrunChoice}
use Rattle.log_answers.specs.Small.{Small}
use Rattle.board_rules.specs.View.{facts_in}
use Rattle.clock_rules.specs.Clock.{max_horizon}
use Rattle.clock_rules.specs.Trace.{tick_text, missed_line}
use Rattle.clock_marks.specs.Marks.{run_in}
use Rattle.clock_lines.specs.Told.{told_to, told_length, RoomAt}
use Rattle.clock_lines.specs.Bounds.{missed_line_bound}
use Rattle.clock_going.specs.Going.{timing_by, Going}
use Rattle.clock_sizes.specs.Sizes.{tick_room, going_room}
use Rattle.clock_ticks.specs.Ticks.{Ticking}
use Rattle.desk_rooms.specs.Whole.{Counted}

-- A TICK'S TEXT stands in the buffer
module _ {p : Policy} {o : OverrunChoice} {view x ls os : List ℕ} {ss : List Bool} {hs ws k : List ℕ} (g : Going p o view x ls os ss hs ws k) (s : Small (facts_in p o view))
    (t : ℕ) (l : t ≤ max_horizon) (a : List ℕ) (e : length a ≡ tick_room) where
  pub told_room : RoomAt true (tick_text (timing_by p o view x) t (run_in ls os ss hs ws k)) a 0
  told_room = going_room g s t l a e true

  module _ {ls' os' : List ℕ} {ss' : List Bool} {hs' ws' k' y' a' : List ℕ} {w v n : ℕ}
      (q : Ticking p o view x true t (run_in ls os ss hs ws k) a ls' os' ss' hs' ws' k' y' a' w v n) where
    -- the buffer keeps its length
    pub buffer_long : length a' ≡ tick_room
    buffer_long = ap length q.text ∙ told_length true (tick_text (timing_by p o view x) t (run_in ls os ss hs ws k)) a 0 told_room ∙ e

    -- and the text does not go beyond it
    pub text_within : w ≤ length a'
    unfolding told_to
    text_within = omega (arith, q.size, told_room refl, buffer_long, e)

    -- so many bytes stand there
    pub text_counted : Counted w a'
    text_counted = (text_within, sym (length-take-le w a' text_within))

    -- there is room for the last line
    pub missed_room : length (missed_line t v n) ≤ length a'
    missed_room =
        let i = q.passing.v_to in
        let j = q.passing.n_to in
        omega (arith, missed_line_bound t v n (omega arith) (omega arith) (omega arith), buffer_long)
