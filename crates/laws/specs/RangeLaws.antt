-- Laws of the tests over the numbers from 1 to n, as a loop uses them, and as a reader does.
use Rattle.std.specs.Prelude.{ℕ, zero, suc, ◌+◌, ◌<◌, ◌≤◌, ◌-◌, ◌≡◌, refl, Bool, true, false, [], ◌∷◌, ◌↔◌, length, get_or}
use Rattle.std.proofs.Common.{sym, ◌∙◌, true≢false, ⊎_elim, eq-or-lt_of_le, le_of_suc-le-suc, add-one, arith, length-append}
use Rattle.std.proofs.lemmas.Bool.{false≢true}
use Rattle.std.proofs.Math.ListN.{get_or-append}
use Rattle.std.proofs.lemmas.List.{get_or_at}
use Rattle.laws.specs.BoolLaws.{both_left, both_right, both, miss_left, miss_right, either_left, either_right, neither_left, neither_right, neither, either_of, missed, bool_cases}
use Rattle.laws.specs.Range.{OneTo, any_to, all_to, highest, list_to}

-- k is at most n + 1: it is n + 1, or at most n
last_or : {P : Type 0} (n k : ℕ) → k ≤ suc n → (k ≡ suc n → P) → (k ≤ n → P) → P
last_or n k h a b = ⊎_elim a (λ l. b (le_of_suc-le-suc l)) (eq-or-lt_of_le h)

-- SOME NUMBER PASSES

pub any_none : (f : ℕ → Bool) → any_to 0 f ≡ false
unfolding any_to
any_none f = refl

pub any_more : (n : ℕ) (f : ℕ → Bool) → any_to n f ≡ false → f (n + 1) ≡ false → any_to (n + 1) f ≡ false
unfolding any_to
any_more n f p q = rw add-one (neither (f (suc n)) (any_to n f) (rw add-one at q) p)

pub any_hit : (n k : ℕ) (f : ℕ → Bool) → 0 < k → k ≤ n → f k ≡ true → any_to n f ≡ true
unfolding any_to
any_hit zero k f g h e = absurd (omega arith)
any_hit (suc n) k f g h e =
    last_or n k h (λ p. either_left (f (suc n)) (any_to n f) (rw p at e)) (λ l. either_right (f (suc n)) (any_to n f) (any_hit n k f g l e))

-- no number passes
pub none_at : (n k : ℕ) (f : ℕ → Bool) → any_to n f ≡ false → 0 < k → k ≤ n → f k ≡ false
unfolding any_to
none_at zero k f e g h = absurd (omega arith)
none_at (suc n) k f e g h =
    last_or n k h (λ p. rw p (neither_left (f (suc n)) (any_to n f) e)) (λ l. none_at n k f (neither_right (f (suc n)) (any_to n f) e) g l)

pub none_of : (n : ℕ) (f : ℕ → Bool) → ((k : ℕ) → 0 < k → k ≤ n → f k ≡ false) → any_to n f ≡ false
unfolding any_to
none_of zero f h = refl
none_of (suc n) f h =
    neither (f (suc n)) (any_to n f) (h (suc n) (omega arith) (omega arith)) (none_of n f (λ k g l. h k g (omega arith)))

-- EVERY NUMBER PASSES

pub all_none : (f : ℕ → Bool) → all_to 0 f ≡ true
unfolding all_to
all_none f = refl

pub all_more : (n : ℕ) (f : ℕ → Bool) → all_to n f ≡ true → f (n + 1) ≡ true → all_to (n + 1) f ≡ true
unfolding all_to
all_more n f p q = rw add-one (both (f (suc n)) (all_to n f) (rw add-one at q) p)

pub all_at : (n k : ℕ) (f : ℕ → Bool) → all_to n f ≡ true → 0 < k → k ≤ n → f k ≡ true
unfolding all_to
all_at zero k f e g h = absurd (omega arith)
all_at (suc n) k f e g h =
    last_or n k h (λ p. rw p (both_left (f (suc n)) (all_to n f) e)) (λ l. all_at n k f (both_right (f (suc n)) (all_to n f) e) g l)

pub all_miss : (n k : ℕ) (f : ℕ → Bool) → 0 < k → k ≤ n → f k ≡ false → all_to n f ≡ false
unfolding all_to
all_miss zero k f g h e = absurd (omega arith)
all_miss (suc n) k f g h e =
    last_or n k h (λ p. miss_left (f (suc n)) (all_to n f) (rw p at e)) (λ l. miss_right (f (suc n)) (all_to n f) (all_miss n k f g l e))

pub all_of : (n : ℕ) (f : ℕ → Bool) → ((k : ℕ) → 0 < k → k ≤ n → f k ≡ true) → all_to n f ≡ true
unfolding all_to
all_of zero f h = refl
all_of (suc n) f h =
    both (f (suc n)) (all_to n f) (h (suc n) (omega arith) (omega arith)) (all_of n f (λ k g l. h k g (omega arith)))

-- WHERE A TEST PASSES, OR FAILS

-- k from 1 to n at which f is t
pub record Witness (n : ℕ) (f : ℕ → Bool) (t : Bool) : Type 0 where
  pub at : ℕ
  pub within : OneTo n at
  pub is : f at ≡ t

here : {n : ℕ} {f : ℕ → Bool} {t : Bool} → f (suc n) ≡ t → Witness (suc n) f t
here {n} e = record { at = suc n; within = record { from = omega arith; to = omega arith }; is = e }

below : {n : ℕ} {f : ℕ → Bool} {t : Bool} → Witness n f t → Witness (suc n) f t
below r = record { at = r.at; within = record { from = r.within.from; to = omega arith }; is = r.is }

pub any_at : (n : ℕ) (f : ℕ → Bool) → any_to n f ≡ true → Witness n f true
unfolding any_to
any_at zero f e = absurd (false≢true e)
any_at (suc n) f e = let ih = any_at n f in ⊎_elim here (λ p. below (ih p)) (either_of (f (suc n)) (any_to n f) e)

pub miss_at : (n : ℕ) (f : ℕ → Bool) → all_to n f ≡ false → Witness n f false
unfolding all_to
miss_at zero f e = absurd (true≢false e)
miss_at (suc n) f e = let ih = miss_at n f in ⊎_elim (λ p. below (ih (missed (f (suc n)) (all_to n f) e p))) here (bool_cases (f (suc n)))

-- THE GREATEST THAT PASSES

pub highest_none : (f : ℕ → Bool) → highest 0 f ≡ 0
unfolding highest
highest_none f = refl

pub highest_hit : (n : ℕ) (f : ℕ → Bool) → f (suc n) ≡ true → highest (suc n) f ≡ suc n
unfolding highest
highest_hit n f e = rw (e, highest)

pub highest_miss : (n : ℕ) (f : ℕ → Bool) → f (suc n) ≡ false → highest (suc n) f ≡ highest n f
unfolding highest
highest_miss n f e = rw (e, highest)

pub highest_le : (n : ℕ) (f : ℕ → Bool) → highest n f ≤ n
unfolding highest
highest_le zero f = omega arith
highest_le (suc n) f = go (f (suc n)) refl (highest_le n f)
  where
    go : (t : Bool) → f (suc n) ≡ t → highest n f ≤ n → highest (suc n) f ≤ suc n
    go true e h = rw (highest_hit n f e) (omega arith)
    go false e h = rw (highest_miss n f e) (omega arith)

pub highest_passes : (n : ℕ) (f : ℕ → Bool) → 0 < highest n f → f (highest n f) ≡ true
unfolding highest
highest_passes zero f h = absurd (omega arith)
highest_passes (suc n) f h = go (f (suc n)) refl (highest_passes n f)
  where
    go : (t : Bool) → f (suc n) ≡ t → (0 < highest n f → f (highest n f) ≡ true) → f (highest (suc n) f) ≡ true
    go true e ih = rw (highest_hit n f e) e
    go false e ih = let g : highest (suc n) f ≡ highest n f = highest_miss n f e in rw g (ih (omega arith))

-- nothing above it passes
pub highest_over : (n k : ℕ) (f : ℕ → Bool) → highest n f < k → k ≤ n → f k ≡ false
highest_over zero k f h l = absurd (omega arith)
highest_over (suc n) k f h l = go (f (suc n)) refl (highest_over n k f)
  where
    go : (t : Bool) → f (suc n) ≡ t → (highest n f < k → k ≤ n → f k ≡ false) → f k ≡ false
    go true e ih = absurd (omega (arith, highest_hit n f e))
    go false e ih = last_or n k l (λ p. rw p e) (λ m. ih (omega (arith, highest_miss n f e)) m)

-- what passes is at most the highest
pub highest_least : (n k : ℕ) (f : ℕ → Bool) → k ≤ n → f k ≡ true → k ≤ highest n f
highest_least zero k f l e = omega arith
highest_least (suc n) k f l e = go (f (suc n)) refl (highest_least n k f)
  where
    go : (t : Bool) → f (suc n) ≡ t → (k ≤ n → f k ≡ true → k ≤ highest n f) → k ≤ highest (suc n) f
    go true q ih = rw (highest_hit n f q) l
    go false q ih = last_or n k l (λ p. absurd (let z : ◌≡◌ {A = ℕ} 0 1 = cc in omega arith)) (λ m. rw (highest_miss n f q) (ih m e))

none_highest : (n : ℕ) (f : ℕ → Bool) → any_to n f ≡ false → highest n f ≡ 0
unfolding any_to
none_highest zero f e = highest_none f
none_highest (suc n) f e =
    highest_miss n f (neither_left (f (suc n)) (any_to n f) e) ∙ none_highest n f (neither_right (f (suc n)) (any_to n f) e)

-- 0 just where no number passes
pub highest_zero : (n : ℕ) (f : ℕ → Bool) → (any_to n f ≡ false) ↔ (highest n f ≡ 0)
highest_zero n f = (none_highest n f, λ e. none_of n f (λ k g l. highest_over n k f (omega arith) l))

-- the one above 0 that passes with nothing above it
pub highest_is : (n k : ℕ) (f : ℕ → Bool) → 0 < k → k ≤ n → f k ≡ true → ((j : ℕ) → k < j → j ≤ n → f j ≡ false) → highest n f ≡ k
highest_is zero k f g l e h = absurd (omega arith)
highest_is (suc n) k f g l e h =
    last_or n k l (λ p. rw p (highest_hit n f (rw p at e)))
    (λ m. highest_miss n f (h (suc n) (omega arith) (omega arith)) ∙ highest_is n k f g m e (λ j a b. h j a (omega arith)))

-- what is the same from 1 to n gives the same
pub highest_same : (n : ℕ) {f g : ℕ → Bool} → ((k : ℕ) → 0 < k → k ≤ n → f k ≡ g k) → highest n f ≡ highest n g
highest_same zero {f} {g} h = highest_none f ∙ sym (highest_none g)
highest_same (suc n) {f} {g} h =
    go (f (suc n)) refl (sym (h (suc n) (omega arith) (omega arith))) (highest_same n (λ k a b. h k a (omega arith)))
  where
    go : (t : Bool) → f (suc n) ≡ t → g (suc n) ≡ f (suc n) → highest n f ≡ highest n g → highest (suc n) f ≡ highest (suc n) g
    go true e q ih = highest_hit n f e ∙ sym (highest_hit n g (q ∙ e))
    go false e q ih = highest_miss n f e ∙ ih ∙ sym (highest_miss n g (q ∙ e))

-- A LOOP FROM n DOWN: none above k passes
pub record Down (n : ℕ) (f : ℕ → Bool) (k : ℕ) : Type 0 where
  pub within : k ≤ n
  pub is : highest n f ≡ highest k f

module _ {n : ℕ} {f : ℕ → Bool} where
  pub down_none : Down n f n
  down_none = record { within = omega arith; is = refl }

  pub down_more : {b : Bool} {k : ℕ} → Down n f k → 0 < k → b ≡ f k → b ≡ false → Down n f (k - 1)
  down_more {k = zero} h l e q = absurd (omega arith)
  down_more {k = suc k} h l e q =
      let z : suc k - 1 ≡ k = omega arith in rw z (record { within = omega (arith, h.within); is = h.is ∙ highest_miss k f (sym e ∙ q) })

  pub down_out : {b : Bool} {k : ℕ} → Down n f k → 0 < k → b ≡ f k → b ≡ true → k ≡ highest n f
  down_out {k = zero} h l e q = absurd (omega arith)
  down_out {k = suc k} h l e q = sym (h.is ∙ highest_hit k f (sym e ∙ q))

  pub down_all : {k : ℕ} → Down n f k → k ≤ 0 → 0 ≡ highest n f
  down_all {k = zero} h l = sym (h.is ∙ highest_none f)
  down_all {k = suc k} h l = absurd (omega arith)

-- LISTS

pub list_length : {B : Type 0} (n : ℕ) (f : ℕ → B) → length (list_to n f) ≡ n
unfolding list_to
list_length zero f = refl
list_length (suc n) f = rw (length-append, list_length n f) (omega arith)

pub list_at : {B : Type 0} (n i : ℕ) (f : ℕ → B) (d : B) → i < n → get_or (list_to n f) i d ≡ f (suc i)
unfolding list_to
list_at zero i f d h = absurd (omega arith)
list_at (suc n) i f d h =
    last_or n (suc i) h
    (λ p. let e : i ≡ n = omega arith in rw e (get_or_at (list_to n f) (f (suc n)) [] d n (list_length n f)))
    (λ l. get_or-append (list_to n f) (f (suc n) ∷ []) d i (rw (list_length n f) l) ∙ list_at n i f d l)
