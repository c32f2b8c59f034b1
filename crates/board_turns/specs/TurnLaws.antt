-- A loop that counts: before the first, one more, after the last.
use Rattle.std.specs.Prelude.{ℕ, suc, ◌+◌, ◌<◌, ◌≤◌, ◌≡◌, Bool, true, false, ◌||◌, ltb}
use Rattle.std.proofs.Common.{sym, ◌∙◌, ap, le_antisymm, add-one, arith, lt-ltb}
use Rattle.std.specs.Prelude.{if◌then◌else◌}
use Rattle.laws.specs.BoolLaws.{either_left}
use Rattle.laws.specs.Range.{any_to}
use Rattle.laws.specs.RangeLaws.{any_none}

-- k of 1 to i, of 1 to n, were counted: some just where one of them passes
pub record Counted (n : ℕ) (f : ℕ → Bool) (k i : ℕ) : Type 0 where
  pub within : i ≤ n
  pub few : k ≤ i
  pub tells : ltb 0 k ≡ any_to i f

one_more : (f : ℕ → Bool) (b : Bool) (k i : ℕ) → b ≡ f (i + 1) → ltb 0 k ≡ any_to i f → ltb 0 (k + (if b then 1 else 0)) ≡ any_to (i + 1) f
unfolding any_to
one_more f true k i e h = lt-ltb 0 (k + 1) (omega arith) ∙ sym (rw add-one (either_left (f (suc i)) (any_to i f) (sym (rw add-one at e))))
one_more f false k i e h =
    let z : k + 0 ≡ k = omega arith in ap (ltb 0) z ∙ h ∙ rw add-one (ap (λ x. x || any_to i f) {x = false} {y = f (suc i)} (rw add-one at e))

few_more : (b : Bool) (k i : ℕ) → k ≤ i → k + (if b then 1 else 0) ≤ i + 1
few_more true k i h = omega arith
few_more false k i h = omega arith

module _ {n : ℕ} {f : ℕ → Bool} where
  pub counted_none : Counted n f 0 0
  counted_none = record { within = omega arith; few = omega arith; tells = sym (any_none f) }

  pub counted_more : {b : Bool} {d k i : ℕ} → Counted n f k i → i < n → d ≡ (if b then 1 else 0) → b ≡ f (i + 1) → Counted n f (k + d) (i + 1)
  counted_more {b} {d} {k} {i} h l e q =
      rw e (record { within = omega arith; few = few_more b k i h.few; tells = one_more f b k i q h.tells })

  pub counted_all : {k i : ℕ} → Counted n f k i → n ≤ i → ltb 0 k ≡ any_to n f
  counted_all h l = h.tells ∙ ap (λ j. any_to j f) (le_antisymm h.within l)
