-- What `board` prints: events as lines in, answers as lines out. Every two lists of bytes have their text.
use Rattle.std.specs.Prelude.{ℕ, List, [], ◌∷◌, Bool, true, false, ◌||◌, ltb, length, Option, Some, None}
use Rattle.laws.specs.Sums.{flat}
use Rattle.laws.specs.Bytes.{pieces, is_nil}
use Rattle.laws.specs.Decimal.{decimal}
use Rattle.plan.specs.Limits.{max_input, lf}
use Rattle.plan.specs.declared.Refusal.TheVariants.{Shape, Number}
use Rattle.plan.specs.declared.Kind.{Kind}
use Rattle.plan.specs.declared.Kind.TheVariants.{PlanLine, PolicyPO, PolicyPN, PolicyDO, PolicyDN, VcpuLine, MutexG, MutexL, OpenLine, GuestLine, TaskLine, RunLine, LockLine, EndLine, AskLine, FreeLine, UseLine, TopLine, ShowLine}
use Rattle.plan.specs.Refusals.{number_of, no_room}
use Rattle.plan.specs.Line.{Item, shape, written, item_of, w_show}
use Rattle.plan.specs.Rules.{nth}
use Rattle.plan.specs.Reading.{Reading, Accepts, Refuses, reading}
use Rattle.figures.specs.System.{system}
use Rattle.board_rules.specs.Facts.{Facts, facts_of}
use Rattle.listing.specs.Listing.{line, dash, w_refused, refused_line}
use Rattle.board_rules.specs.declared.Board.{Board}
use Rattle.board_rules.specs.declared.Event.{Event}
use Rattle.board_rules.specs.declared.Event.TheVariants.{Ask, Free, Use, Top, Show}
use Rattle.board_rules.specs.declared.Next.{Next}
use Rattle.board_rules.specs.declared.Next.TheVariants.{Nobody, To}
use Rattle.board_rules.specs.declared.BoardAnswer.{BoardAnswer}
use Rattle.board_rules.specs.declared.BoardAnswer.TheVariants.{Granted, Waits, Freed, Left, Shows, Refused}
use Rattle.board_rules.specs.declared.Outcome.{Outcome}
use Rattle.board_rules.specs.Board.{fresh, step, refused}

-- EVENT AFTER EVENT: the answers to a list of events, and the board after them, where `by` says what one event does
module _ (by : Board → Event → Outcome) where
  unfoldable pub answers_by : Board → List Event → List BoardAnswer
  answers_by b [] = []
  answers_by b (e ∷ es) = (by b e).answer ∷ answers_by (by b e).board es

  unfoldable pub board_by : Board → List Event → Board
  board_by b [] = b
  board_by b (e ∷ es) = board_by (by b e).board es

-- by the board's own rules
abbrev pub answers : Facts → Board → List Event → List BoardAnswer
answers F = answers_by (step F)

abbrev pub board_after : Facts → Board → List Event → Board
board_after F = board_by (step F)

-- the event that a line's kind and numbers say; none for a line of a plan
unfoldable pub event_of : Kind → List ℕ → Option Event
event_of PlanLine ns = None
event_of PolicyPO ns = None
event_of PolicyPN ns = None
event_of PolicyDO ns = None
event_of PolicyDN ns = None
event_of VcpuLine ns = None
event_of MutexG ns = None
event_of MutexL ns = None
event_of OpenLine ns = None
event_of GuestLine ns = None
event_of TaskLine ns = None
event_of RunLine ns = None
event_of LockLine ns = None
event_of EndLine ns = None
-- `ask v n m`
event_of AskLine ns = Some (Ask (nth 0 ns) (nth 1 ns) (nth 2 ns))
-- `free v n m`
event_of FreeLine ns = Some (Free (nth 0 ns) (nth 1 ns) (nth 2 ns))
-- `use v t`
event_of UseLine ns = Some (Use (nth 0 ns) (nth 1 ns))
-- `top v`
event_of TopLine ns = Some (Top (nth 0 ns))
-- `show v n`
event_of ShowLine ns = Some (Show (nth 0 ns) (nth 1 ns))

-- "An event line of wrong word or field count, or without LF, is refused 1, and one of wrong number form 2, before all else"
-- (without LF: `at_end`)
-- (a v, n or m out of range names nothing in the plan, so `step` refuses it 10)
abbrev pub on_event : Facts → Board → Bool → Option Event → Outcome
on_event F b ok None = refused b Shape
on_event F b true (Some e) = step F b e
on_event F b false (Some e) = refused b Number

abbrev pub on_item : Facts → Board → Option Item → Outcome
on_item F b None = refused b Shape
on_item F b (Some i) = on_event F b (written (shape i.kind) i.nums) (event_of i.kind i.nums)

unfoldable pub on_line : Facts → Board → List ℕ → Outcome
on_line F b l = on_item F b (item_of l)

-- "or without LF, is refused 1": what follows the last LF, where it is not nothing
abbrev pub at_end : List ℕ → List BoardAnswer
at_end [] = []
at_end (x ∷ l) = Refused Shape ∷ []

-- the answers to the lines of events: the pieces between the LFs, the last of which is what follows the last LF
unfoldable pub line_answers : Facts → Board → List (List ℕ) → List BoardAnswer
line_answers F b [] = []
line_answers F b (l ∷ ls) = elim (is_nil ls) [ true ↦ at_end l | false ↦ (on_line F b l).answer ∷ line_answers F (on_line F b l).board ls ]

-- the words, in bytes
-- granted
abbrev pub w_granted : List ℕ
w_granted = 103 ∷ 114 ∷ 97 ∷ 110 ∷ 116 ∷ 101 ∷ 100 ∷ []

-- waits
abbrev pub w_waits : List ℕ
w_waits = 119 ∷ 97 ∷ 105 ∷ 116 ∷ 115 ∷ []

-- freed
abbrev pub w_freed : List ℕ
w_freed = 102 ∷ 114 ∷ 101 ∷ 101 ∷ 100 ∷ []

-- left
abbrev pub w_left : List ℕ
w_left = 108 ∷ 101 ∷ 102 ∷ 116 ∷ []

-- `freed v n` (`freed - -` if nobody)
abbrev pub next_fields : Next → List (List ℕ)
next_fields Nobody = dash ∷ dash ∷ []
next_fields (To v n) = decimal v ∷ decimal n ∷ []

-- `granted`, `waits`, `freed`, `left b o`, `show` with the task's priority and the VCPU's, or `refused` number
abbrev pub answer_fields : BoardAnswer → List (List ℕ)
answer_fields Granted = w_granted ∷ []
answer_fields Waits = w_waits ∷ []
answer_fields (Freed w) = w_freed ∷ next_fields w
answer_fields (Left b o) = w_left ∷ decimal b ∷ decimal o ∷ []
answer_fields (Shows t v) = w_show ∷ decimal t ∷ decimal v ∷ []
answer_fields (Refused r) = w_refused ∷ decimal (number_of r) ∷ []

-- "It answers each event in one line"
unfoldable pub answers_text : List BoardAnswer → List ℕ
answers_text xs = flat (λ a. line (answer_fields a)) xs

-- the lines of the answers to the lines of es, on the board b
abbrev pub replies_to : Facts → Board → List ℕ → List ℕ
replies_to F b es = answers_text (line_answers F b (pieces lf es))

abbrev pub events_text : Reading → List ℕ → List ℕ
events_text (Refuses c) es = refused_line c
events_text (Accepts p) es = replies_to (facts_of (system p)) (fresh (facts_of (system p))) es

-- "Either input above 65,536 bytes, and after that a bad plan, ends it as in `verdict`, before any event is answered"
unfoldable pub board_text : List ℕ → List ℕ → List ℕ
board_text s es =
    elim (ltb max_input (length s) || ltb max_input (length es)) [ true ↦ refused_line no_room | false ↦ events_text (reading s) es ]
