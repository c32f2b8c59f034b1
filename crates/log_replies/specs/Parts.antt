-- An answer taken apart: how many numbers its line has, which of the lines with as many it is, and the numbers; and its text from these.
use Rattle.std.specs.Prelude.{ℕ, List, [], ◌∷◌, eqb}
use Rattle.std.specs.Prelude.{if◌then◌else◌}
use Rattle.laws.specs.Decimal.{decimal}
use Rattle.plan.specs.declared.Refusal.TheVariants.{Shape}
use Rattle.plan.specs.Refusals.{number_of}
use Rattle.plan.specs.Line.{w_show}
use Rattle.listing.specs.Listing.{line, dash, w_refused}
use Rattle.board_rules.specs.declared.Next.{Next}
use Rattle.board_rules.specs.declared.Next.TheVariants.{Nobody, To}
use Rattle.board_rules.specs.declared.BoardAnswer.{BoardAnswer}
use Rattle.board_rules.specs.declared.BoardAnswer.TheVariants.{Granted, Waits, Freed, Left, Shows, Refused}
use Rattle.board_events.specs.Events.{w_granted, w_waits, w_freed, w_left, answer_fields}
pub use Rattle.log_replies.specs.declared.Parts.{Parts}

-- an answer, taken apart
abbrev pub next_parts : Next → Parts
next_parts Nobody = record { count = 0; word = 2; x = 0; y = 0 }
next_parts (To v n) = record { count = 2; word = 0; x = v; y = n }

abbrev pub parts_of : BoardAnswer → Parts
parts_of Granted = record { count = 0; word = 0; x = 0; y = 0 }
parts_of Waits = record { count = 0; word = 1; x = 0; y = 0 }
parts_of (Freed w) = next_parts w
parts_of (Left b o) = record { count = 2; word = 1; x = b; y = o }
parts_of (Shows t v) = record { count = 2; word = 2; x = t; y = v }
parts_of (Refused r) = record { count = 1; word = 0; x = number_of r; y = 0 }

-- the lines with no number, and the words of those with two
unfoldable pub plain_text : ℕ → List ℕ
plain_text w = if eqb w 0 then line (w_granted ∷ []) else (if eqb w 1 then line (w_waits ∷ []) else line (w_freed ∷ dash ∷ dash ∷ []))

unfoldable pub pair_word : ℕ → List ℕ
pair_word w = if eqb w 0 then w_freed else (if eqb w 1 then w_left else w_show)

-- the line of an answer that is taken apart
unfoldable pub parts_text : ℕ → ℕ → ℕ → ℕ → List ℕ
parts_text c w x y =
    if eqb c 0 then plain_text w
    else (if eqb c 1 then line (w_refused ∷ decimal x ∷ []) else line (pair_word w ∷ decimal x ∷ decimal y ∷ []))

-- what is written for the last piece, of k bytes
unfoldable pub end_text : ℕ → List ℕ
end_text k = if eqb k 0 then [] else line (answer_fields (Refused Shape))
