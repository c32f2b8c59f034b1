-- How long the lines are, of numbers below 2 ^ 64: such a number has at most 20 digits.
use Rattle.std.specs.Prelude.{ℕ, ◌+◌, ◌^◌, ◌≤◌, ◌<◌, ◌≡◌, refl, List, [], ◌∷◌, ◌++◌, length}
use Rattle.std.proofs.Common.{ap, ◌∙◌, arith, length-append}
use Rattle.laws.specs.Decimal.{decimal}
use Rattle.laws.proofs.DecimalLaws.{decimal_length}
use Rattle.plan.specs.declared.Refusal.{Refusal}
use Rattle.plan.specs.Refusals.{number_of}
use Rattle.plan.specs.Line.{w_ask, w_free, w_use, w_top, w_show, w_end}
use Rattle.text_letters.specs.Tabbed.{tabbed, rest}
use Rattle.text_letters.specs.TabbedLaws.{rest_more}
use Rattle.text_letters.specs.SizeLaws.{end_sized}
use Rattle.listing.specs.Listing.{line, w_refused}
use Rattle.listing_lines.specs.LineLaws.{line_joins}
use Rattle.board_rules.specs.declared.Event.{Event}
use Rattle.board_rules.specs.declared.Event.TheVariants.{Ask, Free, Use, Top, Show}
use Rattle.board_rules.specs.declared.Next.TheVariants.{Nobody, To}
use Rattle.board_rules.specs.declared.BoardAnswer.{BoardAnswer}
use Rattle.board_rules.specs.declared.BoardAnswer.TheVariants.{Granted, Waits, Freed, Left, Shows, Refused}
use Rattle.board_events.specs.Events.{w_freed, w_left, answer_fields}
use Rattle.log_replies.specs.Short.{one_long, number_low, plain_long, refused_short}
use Rattle.clock_rules.specs.Trace.{w_missed, event_fields, event_line, end_line, missed_line, refused_alone}
use Rattle.clock_words.specs.EventLaws.{event_tabs, fields_join, answer_joins, ask_tabs, free_tabs, use_tabs, top_tabs, show_tabs}

-- the numbers of an event, and of an answer, are below 2 ^ 64
abbrev pub EventLow : Event → Type 0
EventLow (Ask v n m) = (v < 2 ^ 64) × (n < 2 ^ 64) × (m < 2 ^ 64)
EventLow (Free v n m) = (v < 2 ^ 64) × (n < 2 ^ 64) × (m < 2 ^ 64)
EventLow (Use v t) = (v < 2 ^ 64) × (t < 2 ^ 64)
EventLow (Top v) = v < 2 ^ 64
EventLow (Show v n) = (v < 2 ^ 64) × (n < 2 ^ 64)

abbrev pub AnswerLow : BoardAnswer → Type 0
AnswerLow Granted = Unit {0}
AnswerLow Waits = Unit {0}
AnswerLow (Freed Nobody) = Unit {0}
AnswerLow (Freed (To v n)) = (v < 2 ^ 64) × (n < 2 ^ 64)
AnswerLow (Left b o) = (b < 2 ^ 64) × (o < 2 ^ 64)
AnswerLow (Shows t v) = (t < 2 ^ 64) × (v < 2 ^ 64)
AnswerLow (Refused r) = Unit {0}

pub number_long : (n : ℕ) → n < 2 ^ 64 → length (decimal n) ≤ 20
number_long n h = decimal_length 20 n (omega arith) (omega arith)

-- LENGTHS, field by field

line_length : (f : List ℕ) (fs : List (List ℕ)) → length (line (f ∷ fs)) ≡ length f + length (rest fs)
line_length f fs = ap length (line_joins f fs).is ∙ length-append f (rest fs)

rest_length : (f : List ℕ) (fs : List (List ℕ)) → length (rest (f ∷ fs)) ≡ 1 + (length f + length (rest fs))
rest_length f fs = ap length (rest_more f fs) ∙ length-append (tabbed f) (rest fs) ∙ omega arith

rest_none : 1 ≡ length (rest [])
rest_none = end_sized.is

-- a word and two numbers
two_long : (w : List ℕ) (x y : ℕ) → x < 2 ^ 64 → y < 2 ^ 64 → length (line (w ∷ decimal x ∷ decimal y ∷ [])) ≤ length w + 43
two_long w x y h k =
    omega (arith, line_length w (decimal x ∷ decimal y ∷ []), rest_length (decimal x) (decimal y ∷ []), rest_length (decimal y) [], rest_none, number_long x h, number_long y k)

answer_long : (a : BoardAnswer) → AnswerLow a → length (line (answer_fields a)) ≤ 48
answer_long Granted h = let k = plain_long.0 in omega arith
answer_long Waits h = let k = plain_long.1 in omega arith
answer_long (Freed Nobody) h = let k = plain_long.2 in omega arith
answer_long (Freed (To v n)) h = let k = two_long w_freed v n h.0 h.1 in omega arith
answer_long (Left b o) h = let k = two_long w_left b o h.0 h.1 in omega arith
answer_long (Shows t v) h = let k = two_long w_show t v h.0 h.1 in omega arith
answer_long (Refused r) h = let k = refused_short r in omega arith

-- up to three numbers behind a word
module _ (w : List ℕ) (v : ℕ) (h : v < 2 ^ 64) where
  behind_one : length (w ++ tabbed (decimal v)) ≤ length w + 21
  behind_one = omega (arith, length-append w (tabbed (decimal v)), number_long v h)

  module _ (n : ℕ) (i : n < 2 ^ 64) where
    behind_two : length ((w ++ tabbed (decimal v)) ++ tabbed (decimal n)) ≤ length w + 42
    behind_two = omega (arith, length-append (w ++ tabbed (decimal v)) (tabbed (decimal n)), behind_one, number_long n i)

    behind_three : (m : ℕ) → m < 2 ^ 64 → length (((w ++ tabbed (decimal v)) ++ tabbed (decimal n)) ++ tabbed (decimal m)) ≤ length w + 63
    behind_three m j = omega (arith, length-append ((w ++ tabbed (decimal v)) ++ tabbed (decimal n)) (tabbed (decimal m)), behind_two, number_long m j)

event_long : (e : Event) → EventLow e → length (event_tabs e) ≤ 68
event_long (Ask v n m) h = rw (ask_tabs {e = Ask v n m} refl) (let k = behind_three (tabbed w_ask) v h.0 n h.1 m h.2 in omega arith)
event_long (Free v n m) h = rw (free_tabs {e = Free v n m} refl) (let k = behind_three (tabbed w_free) v h.0 n h.1 m h.2 in omega arith)
event_long (Use v t) h = rw (use_tabs {e = Use v t} refl) (let k = behind_two (tabbed w_use) v h.0 t h.1 in omega arith)
event_long (Top v) h = rw (top_tabs {e = Top v} refl) (let k = behind_one (tabbed w_top) v h in omega arith)
event_long (Show v n) h = rw (show_tabs {e = Show v n} refl) (let k = behind_two (tabbed w_show) v h.0 n h.1 in omega arith)

-- THE BOUNDS

pub event_line_bound : (t : ℕ) (e : Event) (a : BoardAnswer) → t < 2 ^ 64 → EventLow e → AnswerLow a → length (event_line t e a) ≤ 192
event_line_bound t e a h i j =
    omega (arith, line_length (decimal t) (event_fields e ++ answer_fields a), ap length (fields_join e a).is ∙ length-append (event_tabs e) (rest (answer_fields a)), ap length (answer_joins a).is, number_long t h, event_long e i, answer_long a j)

pub end_line_bound : (h : ℕ) → h < 2 ^ 64 → length (end_line h) ≤ 96
end_line_bound h l = let k = one_long w_end 20 h (omega arith) (omega arith) in omega arith

pub missed_line_bound : (t v n : ℕ) → t < 2 ^ 64 → v < 2 ^ 64 → n < 2 ^ 64 → length (missed_line t v n) ≤ 96
missed_line_bound t v n h i j =
    omega (arith, line_length w_missed (decimal t ∷ decimal v ∷ decimal n ∷ []), rest_length (decimal t) (decimal v ∷ decimal n ∷ []), rest_length (decimal v) (decimal n ∷ []), rest_length (decimal n) [], rest_none, number_long t h, number_long v i, number_long n j)

pub refused_alone_bound : (r : Refusal) → length (refused_alone r) ≤ 16
refused_alone_bound r = let k = one_long w_refused 2 (number_of r) (omega arith) (number_low r) in omega arith
