-- The first row that passes.
use Rattle.std.specs.Prelude.{ℕ, ◌<◌, ◌≡◌, Bool, ◌||◌}
use Rattle.std.proofs.Math.Path.{refl, sym}
use Rattle.std.proofs.Common.{◌∙◌}
use Rattle.std.proofs.Math.Bool.{true, false}
use Rattle.std.proofs.lemmas.Bool.{false≢true}
use mathlib.Core.List.{List, [], ◌∷◌, ◌++◌}
use Rattle.std.proofs.Math.Decide.{le_ind}
use Rattle.laws.specs.BoolLaws.{neither_left, neither_right}
use Rattle.laws.specs.Sums.{any, first}
use Rattle.laws.specs.SumLaws.{first_in_law, first_out_law}
use Rattle.laws.specs.Rows.{rows, Lacking}
use Rattle.laws.specs.RowLaws.{any_found}

module _ {A : Type 0} (q : A → Bool) (d : A) where
  first_after : (xs ys : List A) → any q xs ≡ false → first q d (xs ++ ys) ≡ first q d ys
  unfolding any
  first_after [] ys h = refl
  first_after (x ∷ xs) ys h =
      first_out_law q d x (xs ++ ys) (neither_left (q x) (any q xs) h) ∙ first_after xs ys (neither_right (q x) (any q xs) h)

  first_before : (xs ys : List A) → any q xs ≡ true → first q d (xs ++ ys) ≡ first q d xs
  unfolding any
  first_before [] ys h = absurd (false≢true h)
  first_before (x ∷ xs) ys h = go (q x) refl h (first_before xs ys)
    where
      go :
          (t : Bool) → q x ≡ t → (t || any q xs) ≡ true → (any q xs ≡ true → first q d (xs ++ ys) ≡ first q d xs) →
          first q d (x ∷ (xs ++ ys)) ≡ first q d (x ∷ xs)
      go true e h ih = first_in_law q d x (xs ++ ys) e ∙ sym (first_in_law q d x xs e)
      go false e h ih = first_out_law q d x (xs ++ ys) e ∙ ih h ∙ sym (first_out_law q d x xs e)

  -- no row before row i passes, and it does
  pub first_row : (row : ℕ → A) (n i : ℕ) → Lacking q row n i → i < n → q (row i) ≡ true → first q d (rows n row) ≡ row i
  unfolding rows
  first_row row n i h l e =
      le_ind (λ m. first q d (rows m row) ≡ row i)
      (first_after (rows i row) (row i ∷ []) h.is ∙ first_in_law q d (row i) [] e)
      (λ m k t. first_before (rows m row) (row m ∷ []) (any_found q row m i k e) ∙ t)
      n
      l
