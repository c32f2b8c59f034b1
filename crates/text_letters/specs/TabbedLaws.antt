-- The rest of a line is a field after a tab, and the rest behind it.
use Rattle.std.specs.Prelude.{ℕ, ◌≡◌, refl, List, [], ◌∷◌, ◌++◌, Bool, true, false}
use Rattle.std.proofs.Common.{ap, ◌∙◌, append_assoc}
use Rattle.laws.specs.Bytes.{joined}
use Rattle.laws.specs.Decimal.{decimal}
use Rattle.plan.specs.Limits.{tab, lf}
use Rattle.text_letters.specs.Wrote.{Joins}
use Rattle.text_letters.specs.Tabbed.{tabbed, rest, number_or}

-- fields parted by one tab, ended by LF: the first, and the rest
pub joined_rest : (f : List ℕ) (fs : List (List ℕ)) → joined tab (f ∷ fs) ++ (lf ∷ []) ≡ f ++ rest fs
unfolding joined rest
joined_rest f [] = refl
joined_rest f (g ∷ fs) = append_assoc f _ _ ∙ ap (λ m. f ++ (tab ∷ m)) (joined_rest g fs)

pub rest_more : (f : List ℕ) (fs : List (List ℕ)) → rest (f ∷ fs) ≡ tabbed f ++ rest fs
unfolding rest
rest_more f fs = refl

-- after the first field: a field, and the rest
pub rest_joins : (f : List ℕ) (fs : List (List ℕ)) → Joins (rest (f ∷ fs)) (tabbed f) (rest fs)
rest_joins f fs = record { is = rest_more f fs }

-- the last field, and LF
pub rest_last : (f : List ℕ) → Joins (rest (f ∷ [])) (tabbed f) (lf ∷ [])
unfolding rest
rest_last f = record { is = refl }

pub choice_number : {c : Bool} (n : ℕ) (w : List ℕ) → c ≡ true → number_or c n w ≡ decimal n
choice_number n w e = rw e

pub choice_word : {c : Bool} (n : ℕ) (w : List ℕ) → c ≡ false → number_or c n w ≡ w
choice_word n w e = rw e
