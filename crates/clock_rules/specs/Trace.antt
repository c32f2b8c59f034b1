-- What `clock` prints: the run's events with their ticks and answers, and how it ended. Every two lists of bytes have their text.
use Rattle.std.specs.Prelude.{ℕ, zero, suc, ◌+◌, List, [], ◌∷◌, ◌++◌, Bool, true, false, ◌||◌, ltb, length}
use Rattle.std.specs.Prelude.{if◌then◌else◌}
use Rattle.laws.specs.Bytes.{pieces, is_nil}
use Rattle.laws.specs.Decimal.{decimal}
use Rattle.plan.specs.Limits.{max_input, tab, lf}
use Rattle.plan.specs.declared.Refusal.{Refusal}
use Rattle.plan.specs.declared.Refusal.TheVariants.{Shape, Number, Range}
use Rattle.plan.specs.Refusals.{number_of, no_room}
use Rattle.plan.specs.Line.{Form, Word, Num, has_shape, numbers, written, w_ask, w_free, w_use, w_top, w_show, w_end}
use Rattle.plan.specs.Rules.{nth}
use Rattle.plan.specs.Reading.{Reading, Accepts, Refuses, reading}
use Rattle.figures.specs.System.{system}
use Rattle.listing.specs.Listing.{line, w_refused, refused_line}
use Rattle.board_rules.specs.Facts.{Facts}
use Rattle.board_rules.specs.declared.Board.{Board}
use Rattle.board_rules.specs.declared.Event.{Event}
use Rattle.board_rules.specs.declared.Event.TheVariants.{Ask, Free, Use, Top, Show}
use Rattle.board_rules.specs.declared.BoardAnswer.{BoardAnswer}
use Rattle.board_rules.specs.Board.{step}
use Rattle.board_events.specs.Events.{answer_fields}
use Rattle.clock_rules.specs.Clock.{Timing, Run, timing_of, at_first, missed, tick, events_at, unless_missed, is_horizon}

-- the words, in bytes
-- horizon
abbrev pub w_horizon : List ℕ
w_horizon = 104 ∷ 111 ∷ 114 ∷ 105 ∷ 122 ∷ 111 ∷ 110 ∷ []

-- missed
abbrev pub w_missed : List ℕ
w_missed = 109 ∷ 105 ∷ 115 ∷ 115 ∷ 101 ∷ 100 ∷ []

-- an event's fields as `board` reads them
abbrev pub event_fields : Event → List (List ℕ)
event_fields (Ask v n m) = w_ask ∷ decimal v ∷ decimal n ∷ decimal m ∷ []
event_fields (Free v n m) = w_free ∷ decimal v ∷ decimal n ∷ decimal m ∷ []
event_fields (Use v t) = w_use ∷ decimal v ∷ decimal t ∷ []
event_fields (Top v) = w_top ∷ decimal v ∷ []
event_fields (Show v n) = w_show ∷ decimal v ∷ decimal n ∷ []

-- the tick, the event's fields, the answer's fields as `board` prints them
abbrev pub event_line : ℕ → Event → BoardAnswer → List ℕ
event_line t e a = line (decimal t ∷ (event_fields e ++ answer_fields a))

-- the lines of events at tick t, from board b on
unfoldable pub lines_at : Facts → ℕ → Board → List Event → List ℕ
lines_at F t b [] = []
lines_at F t b (e ∷ es) = event_line t e (step F b e).answer ++ lines_at F t (step F b e).board es

-- THE TEXT OF ONE TICK
unfoldable pub tick_text : Timing → ℕ → Run → List ℕ
tick_text T t r = lines_at T.facts t r.board (events_at T t r)

-- THE LAST LINE: `end h`, or `missed t v n`
abbrev pub end_line : ℕ → List ℕ
end_line h = line (w_end ∷ decimal h ∷ [])

abbrev pub missed_line : ℕ → ℕ → ℕ → List ℕ
missed_line t v n = line (w_missed ∷ decimal t ∷ decimal v ∷ decimal n ∷ [])

-- THE TEXT OF A RUN from tick t on, k ticks at most: the texts of its ticks one after the other, and the last line
unfoldable pub text_from : Timing → ℕ → ℕ → Run → List ℕ
text_from T zero t r = end_line t
text_from T (suc k) t r = tick_text T t r ++ unless_missed (text_from T k (t + 1) (tick T t r)) (missed_line t) (missed T t r.done)

abbrev pub run_text : Timing → ℕ → List ℕ
run_text T h = text_from T h 0 (at_first T)

-- THE LINE `horizon h`, in the form of event lines: its fields, and its number
abbrev pub horizon_form : List Form
horizon_form = Word w_horizon ∷ Num ∷ []

-- h, or why the line is refused
pub data Horizon : Type 0 where
  Until : ℕ → Horizon
  Refuse : Refusal → Horizon

-- wrong number form `refused 2`, outside 1 to 1,000,000 `refused 3`
abbrev pub horizon_of : ℕ → Bool → Horizon
horizon_of h ok = if ok then (if is_horizon h then Until h else Refuse Range) else Refuse Number

-- wrong word or field count `refused 1`
abbrev pub horizon_in : List (List ℕ) → Horizon
horizon_in fs =
    if has_shape horizon_form fs then horizon_of (nth 0 (numbers 1 horizon_form fs)) (written horizon_form (numbers 1 horizon_form fs)) else Refuse Shape

-- no LF, or bytes after it, `refused 1`: one line, and nothing behind its LF
abbrev pub one_line : List (List ℕ) → Horizon
one_line [] = Refuse Shape
one_line (l ∷ []) = Refuse Shape
one_line (l ∷ m ∷ ls) = if is_nil m then (if is_nil ls then horizon_in (pieces tab l) else Refuse Shape) else Refuse Shape

unfoldable pub horizon_from : List ℕ → Horizon
horizon_from s = one_line (pieces lf s)

abbrev pub refused_alone : Refusal → List ℕ
refused_alone r = line (w_refused ∷ decimal (number_of r) ∷ [])

-- WHAT `clock` PRINTS. "Sizes and a bad plan end it as in `board`; then the line"
abbrev pub run_to : Timing → Horizon → List ℕ
run_to T (Refuse r) = refused_alone r
run_to T (Until h) = run_text T h

abbrev pub clock_on : Reading → List ℕ → List ℕ
clock_on (Refuses c) s = refused_line c
clock_on (Accepts p) s = run_to (timing_of (system p)) (horizon_from s)

unfoldable pub clock_text : List ℕ → List ℕ → List ℕ
clock_text p s = elim (ltb max_input (length p) || ltb max_input (length s)) [ true ↦ refused_line no_room | false ↦ clock_on (reading p) s ]
