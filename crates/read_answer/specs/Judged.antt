-- What the code of the reader answers and leaves, step by step.
use Rattle.std.specs.Prelude.{ℕ, List, [], ◌∷◌, Bool, true, false, cond, Option, Result, Ok, Err, is_ok}
use Rattle.laws.specs.Bytes.{pieces, is_nil}
use Rattle.plan.specs.Limits.{lf}
use Rattle.plan.specs.declared.Refusal.TheVariants.{Shape}
use Rattle.plan.specs.Refusals.{complaint, no_room, Fault}
use Rattle.plan.specs.Line.{Item}
use Rattle.plan.specs.Reading.{Verdict, Faultless, FirstBad, judge, fault_of, field_at, next_of}
use Rattle.plan.specs.declared.Complaint.{Complaint}
use Rattle.plan_tables.specs.declared.PlanRecord.{PlanRecord}
use Rattle.plan_tables.specs.Given.{roomy_by}
use Rattle.text_lines.specs.declared.Said.{Said}
use Rattle.text_lines.specs.Said.{said_of, said_item}
use Rattle.judge_coded.specs.declared.Seen.{Seen}
use Rattle.judge_coded.specs.Coded.{coded, start}
use Rattle.read_tally.specs.declared.Tally.{Tally}
use Rattle.read_tally.specs.Tally.{record_in, tallied, tally_after, blank}

-- THE VERDICT ON LINES, with the record of what they tally
abbrev pub answer_by : Verdict → PlanRecord → Result PlanRecord Complaint
answer_by Faultless r = Ok r
answer_by (FirstBad x) r = Err x

-- from line n on, after what is seen and tallied
unfoldable pub judged_from : Seen → Tally → ℕ → List (List ℕ) → Result PlanRecord Complaint
judged_from t c n ls = answer_by (judge coded t n ls) (record_in (tallied c ls))

-- the field of a line with a fault, by what it says
abbrev pub field_by : Seen → Option Item → Fault → ℕ
field_by t o (Ok tt) = 0
field_by t o (Err x) = field_at coded t o x

-- the refusal of line n, with a fault in field k
abbrev pub refused_by : Fault → ℕ → ℕ → Result PlanRecord Complaint
refused_by (Ok tt) n k = Err (complaint Shape n k)
refused_by (Err x) n k = Err (complaint x n k)

unfoldable pub finish_by : Bool → Tally → ℕ → Result PlanRecord Complaint
finish_by true t n = Ok (record_in t)
finish_by false t n = Err (complaint Shape n 0)

-- ROOM
unfoldable pub room_or : Bool → PlanRecord → Result PlanRecord Complaint
room_or true r = Ok r
room_or false r = Err no_room

abbrev pub with_room : Result PlanRecord Complaint → ℕ → ℕ → ℕ → ℕ → Result PlanRecord Complaint
with_room (Ok r) v m o k = room_or (roomy_by r v m o k) r
with_room (Err x) v m o k = Err x

abbrev pub is_accepted : Result PlanRecord Complaint → Bool
is_accepted (Ok r) = true
is_accepted (Err x) = false

-- TABLES
-- what lines write into a table, after what is seen and tallied: each line before the first with a fault; the last piece is no line
unfoldable pub left_from : (Tally → Said → List ℕ → List ℕ) → Seen → Tally → List ℕ → List (List ℕ) → List ℕ
left_from put t c d [] = d
left_from put t c d (l ∷ ls) =
    cond (is_nil ls) d
    (cond (is_ok (fault_of coded t (said_item (said_of l))))
    (left_from put (next_of coded t (said_item (said_of l))) (tally_after c (said_of l)) (put c (said_of l) d) ls) d)

-- what the lines of s leave in a table
abbrev pub lines_left : (Tally → Said → List ℕ → List ℕ) → List ℕ → List ℕ → List ℕ
lines_left put s d = left_from put start blank d (pieces lf s)

-- the same where the test holds; else the table as it was
unfoldable pub left_if : Bool → (Tally → Said → List ℕ → List ℕ) → List ℕ → List ℕ → List ℕ
left_if true put s d = lines_left put s d
left_if false put s d = d
