-- What the lines of events say, whatever the board, and the answers of a run in the places of its lines.
use Rattle.std.specs.Prelude.{ℕ, List, [], ◌∷◌, Bool, true, false, Option, Some, None}
use Rattle.laws.specs.Bytes.{pieces, is_nil}
use Rattle.plan.specs.Limits.{lf}
use Rattle.plan.specs.declared.Refusal.{Refusal}
use Rattle.plan.specs.declared.Refusal.TheVariants.{Shape, Number}
use Rattle.plan.specs.Line.{Item, shape, written, item_of}
use Rattle.board_rules.specs.Facts.{Facts}
use Rattle.board_rules.specs.declared.Event.{Event}
use Rattle.board_rules.specs.declared.BoardAnswer.{BoardAnswer}
use Rattle.board_rules.specs.declared.BoardAnswer.TheVariants.{Refused}
use Rattle.board_rules.specs.Board.{fresh}
use Rattle.board_events.specs.Events.{answers, event_of}

-- a line of events says an event, or none and is refused
pub data LineSays : Type 0 where
  AnEvent : Event → LineSays
  NoEvent : Refusal → LineSays

-- "An event line of wrong word or field count .. is refused 1, and one of wrong number form 2, before all else"
abbrev pub event_says : Bool → Option Event → LineSays
event_says ok None = NoEvent Shape
event_says true (Some e) = AnEvent e
event_says false (Some e) = NoEvent Number

abbrev pub item_says : Option Item → LineSays
item_says None = NoEvent Shape
item_says (Some i) = event_says (written (shape i.kind) i.nums) (event_of i.kind i.nums)

unfoldable pub says_of : List ℕ → LineSays
says_of l = item_says (item_of l)

-- "or without LF, is refused 1": what follows the last LF, where it is not nothing
abbrev pub says_at_end : List ℕ → List LineSays
says_at_end [] = []
says_at_end (x ∷ l) = NoEvent Shape ∷ []

-- "on standard input, events with tabs and LF as in a plan": the pieces between the LFs, the last of which is what follows the last LF
unfoldable pub said_in : List (List ℕ) → List LineSays
said_in [] = []
said_in (l ∷ ls) = elim (is_nil ls) [ true ↦ says_at_end l | false ↦ says_of l ∷ said_in ls ]

-- the events that the lines say, in order
unfoldable pub events_in : List LineSays → List Event
events_in [] = []
events_in (AnEvent e ∷ xs) = e ∷ events_in xs
events_in (NoEvent r ∷ xs) = events_in xs

-- "It answers each event in one line": the events' answers in their places, `refused` number in the place of a line that says none
unfoldable pub answers_in : List LineSays → List BoardAnswer → List BoardAnswer
answers_in [] ys = []
answers_in (AnEvent e ∷ xs) [] = []
answers_in (AnEvent e ∷ xs) (a ∷ ys) = a ∷ answers_in xs ys
answers_in (NoEvent r ∷ xs) ys = Refused r ∷ answers_in xs ys

-- back from the printed answers: those in the places of events
unfoldable pub answers_to : List LineSays → List BoardAnswer → List BoardAnswer
answers_to [] ys = []
answers_to (AnEvent e ∷ xs) [] = []
answers_to (AnEvent e ∷ xs) (a ∷ ys) = a ∷ answers_to xs ys
answers_to (NoEvent r ∷ xs) [] = []
answers_to (NoEvent r ∷ xs) (a ∷ ys) = answers_to xs ys

-- what the lines of the text es say
abbrev pub said_by : List ℕ → List LineSays
said_by es = said_in (pieces lf es)

-- the answers to the lines of es from a fresh board: those of the run of their events, in their places
abbrev pub printed : Facts → List ℕ → List BoardAnswer
printed F es = answers_in (said_by es) (answers F (fresh F) (events_in (said_by es)))
