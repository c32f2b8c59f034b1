-- Tests that are the same from 1 to n, and the topmost of those that pass.
use Rattle.std.specs.Prelude.{ℕ, zero, suc, ◌<◌, ◌≤◌, ◌≡◌, refl, Bool, true, ◌&&◌, ◌||◌, not, leb}
use Rattle.std.proofs.Common.{sym, ap, ap₂, ◌∙◌, ⊎_elim, arith}
use Rattle.laws.specs.Range.{any_to, all_to}
use Rattle.laws.specs.RangeLaws.{highest_same}
use Rattle.laws.specs.BoolLaws.{miss_left, either_left, bool_cases}
use Rattle.laws_picks.specs.Picks.{is_top, top_of}

-- some number passes the one where some passes the other
pub any_same : (n : ℕ) {f g : ℕ → Bool} → ((k : ℕ) → 0 < k → k ≤ n → f k ≡ g k) → any_to n f ≡ any_to n g
unfolding any_to
any_same zero h = refl
any_same (suc n) h = ap₂ ◌||◌ (h (suc n) (omega arith) (omega arith)) (any_same n (λ k a l. h k a (omega arith)))

-- all pass the one where all pass the other
pub all_same : (n : ℕ) {f g : ℕ → Bool} → ((k : ℕ) → 0 < k → k ≤ n → f k ≡ g k) → all_to n f ≡ all_to n g
unfolding all_to
all_same zero h = refl
all_same (suc n) h = ap₂ ◌&&◌ (h (suc n) (omega arith) (omega arith)) (all_same n (λ k a l. h k a (omega arith)))

-- measures need be the same only where the test passes
pub top_same : (n : ℕ) {f g : ℕ → Bool} {p q : ℕ → ℕ} → ((k : ℕ) → 0 < k → k ≤ n → f k ≡ g k) → ((k : ℕ) → 0 < k → k ≤ n → f k ≡ true → p k ≡ q k) →
    top_of n f p ≡ top_of n g q
unfolding top_of
top_same n {f} {g} {p} {q} h e = highest_same n {f = is_top n f p} {g = is_top n g q} at_each
  where
    -- none that passes is above k
    under : (k : ℕ) → p k ≡ q k → (j : ℕ) → 0 < j → j ≤ n → (not (f j) || leb (p j) (p k)) ≡ (not (g j) || leb (q j) (q k))
    under k y j a l =
        ⊎_elim (λ t. ap₂ ◌||◌ (ap not (h j a l)) (ap₂ leb (e j a l t) y))
        (λ t. either_left (not (f j)) _ (ap not t) ∙ sym (either_left (not (g j)) _ (ap not (sym (h j a l) ∙ t)))) (bool_cases (f j))

    at_each : (k : ℕ) → 0 < k → k ≤ n → is_top n f p k ≡ is_top n g q k
    at_each k a l =
        ⊎_elim (λ t. ap₂ ◌&&◌ (h k a l) (all_same n (under k (e k a l t))))
        (λ t. miss_left (f k) _ t ∙ sym (miss_left (g k) _ (sym (h k a l) ∙ t))) (bool_cases (f k))
