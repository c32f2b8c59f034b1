-- An answer whose numbers are those of a small board has a line of at most 30 bytes, a refusal by 1 or 2 one of at most 10.
use Rattle.std.specs.Prelude.{ℕ, ◌+◌, ◌*◌, ◌^◌, ◌≤◌, ◌<◌, refl, List, [], ◌∷◌, length}
use Rattle.std.proofs.Common.{arith}
use Rattle.laws.specs.Bytes.{joined}
use Rattle.laws.specs.Decimal.{decimal}
use Rattle.laws.proofs.DecimalLaws.{decimal_length}
use Rattle.plan.specs.Limits.{max_period, max_length, most_tasks}
use Rattle.plan.specs.declared.Refusal.{Refusal}
use Rattle.plan.specs.declared.Refusal.TheVariants.{Shape, Number, Range, Order, Missing, Outside, TooMany, Room, Foreign, Unknown, Unlisted, Asleep, Busy, NotHolder, Supply}
use Rattle.plan.specs.Refusals.{number_of}
use Rattle.listing.specs.Listing.{line, dash, w_refused}
use Rattle.text_letters.specs.Wrote.{Sized}
use Rattle.text_letters.specs.SizeLaws.{rest_sized, end_sized}
use Rattle.listing_lines.specs.SizeLaws.{line_sized}
use Rattle.board_rules.specs.declared.BoardAnswer.{BoardAnswer}
use Rattle.board_rules.specs.declared.BoardAnswer.TheVariants.{Refused}
use Rattle.board_events.specs.Events.{w_granted, w_waits, w_freed, answer_fields}

decimal_sized : (w n : ℕ) → 0 < w → n < 10 ^ w → Sized (decimal n) w (length (decimal n))
decimal_sized w n p h = record { is = refl; small = decimal_length w n p h }

-- a word and a number of at most d digits
pub one_long : (w : List ℕ) (d n : ℕ) → 0 < d → n < 10 ^ d → length (line (w ∷ decimal n ∷ [])) ≤ d + 2 + length w
one_long w d n p h =
    let s = line_sized w (decimal n ∷ []) (rest_sized [] (decimal_sized d n p h) end_sized) in
    let a = s.is in let b = s.small in omega arith

-- a word of at most 5 bytes, a number of at most 7 digits and one of at most 8
pub pair_long : (w : List ℕ) (x y : ℕ) → length w ≤ 5 → x ≤ max_period → y ≤ most_tasks * max_length → length (line (w ∷ decimal x ∷ decimal y ∷ [])) ≤ 30
pair_long w x y l h k =
    let s = line_sized w (decimal x ∷ decimal y ∷ []) (rest_sized (decimal y ∷ []) (decimal_sized 7 x (omega arith) (omega arith)) (rest_sized [] (decimal_sized 8 y (omega arith) (omega arith)) end_sized)) in
    let a = s.is in let b = s.small in omega arith

pub plain_long : (length (line (w_granted ∷ [])) ≤ 30) × (length (line (w_waits ∷ [])) ≤ 30) × (length (line (w_freed ∷ dash ∷ dash ∷ [])) ≤ 30)
unfolding line joined
plain_long = (omega arith, omega arith, omega arith)

-- an answer's line has at most 30 bytes
abbrev pub Short : BoardAnswer → Type 0
Short a = length (line (answer_fields a)) ≤ 30

pub number_low : (r : Refusal) → number_of r < 10 ^ 2
unfolding number_of
number_low r =
    elim r as (λ r. number_of r < 10 ^ 2) [
      | Shape ↦ omega arith
      | Number ↦ omega arith
      | Range ↦ omega arith
      | Order ↦ omega arith
      | Missing ↦ omega arith
      | Outside ↦ omega arith
      | TooMany ↦ omega arith
      | Room ↦ omega arith
      | Foreign ↦ omega arith
      | Unknown ↦ omega arith
      | Unlisted ↦ omega arith
      | Asleep ↦ omega arith
      | Busy ↦ omega arith
      | NotHolder ↦ omega arith
      | Supply ↦ omega arith
    ]

pub refused_short : (r : Refusal) → Short (Refused r)
refused_short r = let a = one_long w_refused 2 (number_of r) (omega arith) (number_low r) in omega arith

-- a refusal by 1 or 2
pub shape_ten : length (line (answer_fields (Refused Shape))) ≤ 10
unfolding number_of
shape_ten = let a = one_long w_refused 1 1 (omega arith) (omega arith) in omega arith

pub number_ten : length (line (answer_fields (Refused Number))) ≤ 10
unfolding number_of
number_ten = let a = one_long w_refused 1 2 (omega arith) (omega arith) in omega arith
