-- Laws of a loop that compares two lists of bytes: before the first, one byte more, where it stops, and at the end.
use Rattle.std.specs.Prelude.{ℕ, ◌+◌, ◌≤◌, ◌<◌, ◌≡◌, refl, List, [], ◌∷◌, true, false, ◌&&◌, eqb, length, get_or, drop}
use Rattle.std.proofs.Common.{ap, ◌∙◌, arith, eq-eqb, ne_eqb}
use Rattle.std.proofs.Math.Path.{sym}
use Rattle.std.proofs.Math.Bool.{and-false}
use Rattle.std.proofs.Math.ListN.{drop_of_length-le}
use Rattle.laws.specs.Bytes.{same}
use Rattle.laws.specs.Steps.{drop_next}

-- lists of different lengths
pub same_long : (s w : List ℕ) → (length s ≡ length w → ⊥) → false ≡ same s w
unfolding same
same_long [] [] h = absurd (h refl)
same_long [] (y ∷ w) h = refl
same_long (x ∷ s) [] h = refl
same_long (x ∷ s) (y ∷ w) h = sym (ap (λ b. eqb x y && b) (sym (same_long s w (λ e. h (omega arith)))) ∙ and-false (eqb x y))

-- the first i bytes are the same
pub record Same (s w : List ℕ) (i : ℕ) : Type 0 where
  pub within : i ≤ length s
  pub long : length s ≡ length w
  pub is : same s w ≡ same (drop i s) (drop i w)

module _ {s w : List ℕ} where
  pub same_none : length s ≡ length w → Same s w 0
  same_none h = record { within = omega arith; long = h; is = refl }

  module _ {i : ℕ} (h : Same s w i) where
    next : i < length s → same s w ≡ (eqb (get_or s i 0) (get_or w i 0) && same (drop (i + 1) s) (drop (i + 1) w))
    unfolding same
    next l = let k = h.long in h.is ∙ rw (drop_next s i l, drop_next w i (omega arith))

    pub same_more : i < length s → get_or s i 0 ≡ get_or w i 0 → Same s w (i + 1)
    same_more l e = record { within = omega arith; long = h.long; is = next l ∙ rw (eq-eqb (get_or s i 0) (get_or w i 0) e) }

    pub same_stop : i < length s → (get_or s i 0 ≡ get_or w i 0 → ⊥) → false ≡ same s w
    same_stop l e = sym (next l ∙ rw (ne_eqb (get_or s i 0) (get_or w i 0) e))

    pub same_end : length s ≤ i → true ≡ same s w
    unfolding same
    same_end l = let k = h.long in sym (h.is ∙ rw (drop_of_length-le s {i = i} l, drop_of_length-le w {i = i} (omega arith)))
