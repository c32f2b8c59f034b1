-- What code makes of the bytes from a place on is the line that begins there; and line by line, these are the pieces of the input between its LFs.
use Rattle.std.specs.Prelude.{ℕ, ◌+◌, ◌<◌, ◌≤◌, ◌≡◌, List, [], ◌∷◌, true, false, eqb, ltb, take, drop}
use Rattle.std.proofs.Math.Path.{refl, ap}
use Rattle.std.proofs.Common.{◌∙◌, length-drop}
use native.Mathlib.Omega.{arith}
use Rattle.std.proofs.Math.ListN.{length}
use Rattle.std.proofs.Math.Seq.{drop-drop}
use borrow.Author.Tests.{ltb-true, ltb-false}
use Rattle.laws.specs.Bytes.{pieces}
use Rattle.std.specs.Prelude.{if◌then◌else◌}
use Rattle.laws.specs.Fields.{before}
use Rattle.laws.specs.Steps.{take_before, pieces_cut, pieces_uncut, before_whole, drop_part}
use Rattle.plan.specs.Limits.{lf}
use Rattle.text_lines.specs.declared.Said.{Said}
use Rattle.text_lines.specs.Said.{said_of}
use Rattle.text_scan.specs.Scan.{Line, Step, line_in, line_at, step_at}

-- r is what is left of s from `at` on, and k its bytes before the next LF
module _ (s : List ℕ) (at k : ℕ) (r : List ℕ) (er : r ≡ drop at s) (ek : k ≡ length (before lf r)) where
  cut_is : k ≡ length (line_in s at)
  cut_is = ek ∙ ap (λ r. length (before lf r)) er

  -- the line after one that an LF ends begins within the input
  pub next_fits : ltb k (length r) ≡ true → at + k + 1 ≤ length s
  next_fits h = omega (arith, ltb-true k (length r) h, ap length er, length-drop at s)

  pub line_made :
      (x : Said) (n : ℕ) → x ≡ said_of (take k r) → n ≡ (if ltb k (length r) then at + k + 1 else length s) →
      ◌≡◌ {A = Line} (record { ended = ltb k (length r); empty = eqb (length r) 0; said = x; next = n }) (line_at s at)
  unfolding line_at
  line_made x n ex en = rw (ex, en, cut_is, er, take_before lf (drop at s))

-- LINE BY LINE
module _ (s : List ℕ) (at : ℕ) where
  pub line_said : (line_at s at).said ≡ said_of (line_in s at)
  unfolding line_at
  line_said = refl

  -- the line after one that an LF ends begins after that LF
  pub next_is : (line_at s at).ended ≡ true → (line_at s at).next ≡ at + length (line_in s at) + 1
  unfolding line_at
  next_is h = rw h

  -- and within the input
  pub next_later : (line_at s at).ended ≡ true → (at < (line_at s at).next) × ((line_at s at).next ≤ length s)
  unfolding line_at
  next_later h = rw h (omega arith, next_fits s at (length (line_in s at)) (drop at s) refl refl h)

  -- a line that an LF ends is the next piece, and the others begin where the next line does
  pub ended_pieces : (line_at s at).ended ≡ true → pieces lf (drop at s) ≡ line_in s at ∷ pieces lf (drop (line_at s at).next s)
  unfolding line_at
  ended_pieces h =
      let n : at + length (line_in s at) + 1 ≡ at + (length (line_in s at) + 1) = omega arith in
      pieces_cut lf (drop at s) (ltb-true _ _ h)
      ∙ rw (h, n, ← drop-drop (length (line_in s at) + 1) at s, drop_part lf (drop at s) (length (line_in s at)) refl)

  -- else what is left is the last
  pub last_piece : (line_at s at).ended ≡ false → pieces lf (drop at s) ≡ drop at s ∷ []
  unfolding line_at
  last_piece h =
      let l = ltb-false _ _ h in
      pieces_uncut lf (drop at s) l ∙ ap (λ p. p ∷ []) (before_whole lf (drop at s) l)

-- ONE STEP: the line l of a reader of r at i with the number m, and the place j and the number o that the reader is moved to
pub step_made :
    (s : List ℕ) (at n : ℕ) (r : List ℕ) (i m : ℕ) (l : Line) (j o : ℕ) → r ≡ s → i ≡ at → m ≡ n → l ≡ line_at r i → j ≡ l.next → o ≡ m + 1 →
    ◌≡◌ {A = Step} (record { line = l; at = j; number = o }) (step_at s at n)
unfolding step_at
step_made s at n r i m l j o er ei em el ej eo = rw (eo, ej, el, em, ei, er)
