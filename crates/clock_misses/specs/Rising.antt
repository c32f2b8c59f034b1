-- Laws of the loops that look for the first miss.
use Rattle.std.specs.Prelude.{ℕ, ◌+◌, ◌<◌, ◌≤◌, ◌≡◌, refl, Bool, true, false, ltb}
use Rattle.std.proofs.Common.{sym, subst, ◌∙◌, ⊎_elim, le_antisymm, eq-zero-or-pos, arith, lt-ltb, le-ltb}
use Rattle.std.proofs.Math.Decide.{dec_le}
use Rattle.laws.specs.Range.{any_to}
use Rattle.laws.specs.RangeLaws.{any_none, any_more, any_hit, none_at}
use Rattle.laws.specs.BoolLaws.{clash}
use Rattle.laws_picks.specs.Picks.{lowest}
use Rattle.laws_picks.specs.PickLaws.{lowest_passes, lowest_least, lowest_zero}

-- FROM THE LOWEST UP: none of 1 to i, of 1 to n, passes
pub record Rising (n : ℕ) (f : ℕ → Bool) (i : ℕ) : Type 0 where
  pub within : i ≤ n
  pub none : any_to i f ≡ false

module _ {n : ℕ} {f : ℕ → Bool} where
  pub rising_none : Rising n f 0
  rising_none = record { within = omega arith; none = any_none f }

  pub rising_more : {b : Bool} {i : ℕ} → Rising n f i → i < n → b ≡ f (i + 1) → b ≡ false → Rising n f (i + 1)
  rising_more {b} {i} h l e q = record { within = omega arith; none = any_more i f h.none (sym e ∙ q) }

  pub rising_out : {b : Bool} {i : ℕ} → Rising n f i → i < n → b ≡ f (i + 1) → b ≡ true → i + 1 ≡ lowest n f
  rising_out {b} {i} h l e q =
      le_antisymm
      (⊎_elim (λ z. absurd (clash (any_hit n (i + 1) f (omega arith) (omega arith) hit) ((lowest_zero n f).1 z))) (λ g. above g (dec_le (i + 1) (lowest n f))) (eq-zero-or-pos (lowest n f)))
      (lowest_least n (i + 1) f (omega arith) (omega arith) hit)
    where
      hit : f (i + 1) ≡ true
      hit = sym e ∙ q

      above : 0 < lowest n f → Dec (i + 1 ≤ lowest n f) → i + 1 ≤ lowest n f
      above g (yes m) = m
      above g (no m) = absurd (clash (lowest_passes n f g) (none_at i (lowest n f) f h.none g (omega arith)))

  pub rising_all : {i : ℕ} → Rising n f i → n ≤ i → 0 ≡ lowest n f
  rising_all h l = sym ((lowest_zero n f).0 (subst (λ i. any_to i f ≡ false) (le_antisymm h.within l) h.none))

-- some of n passes just where the lowest is not 0
pub some_lowest : (n : ℕ) (f : ℕ → Bool) {r : ℕ} → r ≡ lowest n f → ltb 0 r ≡ any_to n f
some_lowest n f {r} e = at_test (any_to n f) refl
  where
    at_test : (b : Bool) → any_to n f ≡ b → ltb 0 r ≡ b
    at_test true q = lt-ltb 0 r (⊎_elim (λ z. absurd (clash q ((lowest_zero n f).1 (sym e ∙ z)))) (λ l. l) (eq-zero-or-pos r))
    at_test false q = let z = (lowest_zero n f).0 q in le-ltb 0 r (omega arith)
