-- `clock_horizons::says` meets its contract.
use Rattle.std.proofs.Common.{ℕ, ◌≡◌, List, [], ◌∷◌, ◌&&◌, eqb, refl, sym, ap, ◌∙◌}
use Rattle.std.specs.Cmp.Lexicographic.{pointwise}
use Rattle.laws.specs.Bytes.{same}
use Rattle.clock_horizons.proofs.says.Goals as goal

-- compared as std compares
same_is : (s w : List ℕ) → same s w ≡ pointwise eqb s w
unfolding same
same_is [] [] = refl
same_is [] (y ∷ w) = refl
same_is (x ∷ s) [] = refl
same_is (x ∷ s) (y ∷ w) = ap (λ b. eqb x y && b) (same_is s w)

pub returns : goal.returns
returns c = c.eq.ensures ∙ sym (same_is _ _)
