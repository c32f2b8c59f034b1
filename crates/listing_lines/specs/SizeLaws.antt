-- The sizes of lines: the first word's and the rest's.
use Rattle.std.specs.Prelude.{ℕ, ◌+◌, ◌≤◌, ◌≡◌, refl, List, ◌∷◌, Bool, true, false, eqb, length}
use Rattle.std.proofs.Common.{ap, sym, ◌∙◌, arith, length-append}
use Rattle.std.specs.Prelude.{if◌then◌else◌}
use Rattle.listing.specs.Listing.{w_fits, w_late, w_no_wait, w_held, line}
use Rattle.text_letters.specs.Wrote.{Sized}
use Rattle.text_letters.specs.Tabbed.{rest}
use Rattle.listing_lines.specs.Lines.{head_text, all_text, answer_word}
use Rattle.listing_lines.specs.LineLaws.{line_joins, head_bytes, all_bytes}

-- a line's first word, and the rest
pub line_sized : (w : List ℕ) (fs : List (List ℕ)) {c y : ℕ} → Sized (rest fs) c y → Sized (line (w ∷ fs)) (c + length w) (y + length w)
line_sized w fs q =
    let e : length (line (w ∷ fs)) ≡ length w + length (rest fs) = ap length (line_joins w fs).is ∙ length-append w (rest fs) in
    record { is = let l = q.is in omega arith; small = let l = q.small in omega arith }

-- an answer's word
pub word_sized : (c : ℕ) {w : List ℕ} → answer_word c ≡ w → Sized (answer_word c) 6 (length w)
word_sized c {w} e = record { is = ap length (sym e); small = rw e at (go (eqb c 0) (eqb c 1) (eqb c 2)) }
  where
    go : (p q r : Bool) → length (if p then w_late else (if q then w_fits else (if r then w_no_wait else w_held))) ≤ 6
    go true q r = omega arith
    go false true r = omega arith
    go false false true = omega arith
    go false false false = omega arith

pub head_sized : Sized head_text 10 10
head_sized = record { is = ap length (sym head_bytes); small = omega arith }

pub all_sized : (b : Bool) → Sized (all_text b) 9 9
all_sized true = record { is = ap length (sym (all_bytes true refl)); small = omega arith }
all_sized false = record { is = ap length (sym (all_bytes false refl)); small = omega arith }
