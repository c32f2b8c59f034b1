-- Laws of `Sums`: what is rounded up, summed up or maximised rises with its parts, and a sum or a product may be capped early.
use Rattle.std.specs.Prelude.{ℕ, zero, suc, ◌+◌, ◌-◌, ◌*◌, ◌/◌, ◌≤◌, ◌<◌, min, max, Bool, ◌&&◌, ◌||◌, ◌≡◌, ◌↔◌, length, get_or}
use Rattle.std.proofs.Math.Bool.{true, false, and_assoc, or_assoc}
use Rattle.std.proofs.lemmas.Bool.{false≢true}
use mathlib.Core.List.{List, [], ◌∷◌, ◌++◌, append_assoc, Memᴰ}
use Rattle.std.proofs.Math.Path.{refl, ap}
use Rattle.std.proofs.Common.{ap₂, sym, subst, ◌∙◌, ⊎_elim, div-lt_iff_lt-mul, eq-zero-or-pos, mul-le-mul, le_refl, le_trans, le-mul_of_pos_right, add-le-add, mul-zero, mul_comm, arith}
use Rattle.std.proofs.Math.Logic.{by_cases}
use Rattle.std.proofs.Math.Nat.{div-zero, div-eq_of_lt, add-div_right, min-eq_left, min-eq_right, max-le}
use Rattle.std.proofs.Math.Decide.{dec_le}
use Rattle.laws.specs.BoolLaws.{both_left, both_right, both, either_left, either_right, neither_left, neither_right, neither, either_of}
use Rattle.laws.specs.Choice.{when}
use Rattle.laws.specs.Sums.{up, sum, greatest, any, all, first, flat, only, Each, Has}

-- ROUNDING UP

-- t / p rounded up is at most k just where t is at most k times p
pub up_least : (t k : ℕ) {p : ℕ} → 0 < p → (up t p ≤ k) ↔ (t ≤ k * p)
unfolding up
up_least t k {p} h = (
  λ l. let z = (div-lt_iff_lt-mul {x = t + (p - 1)} {y = suc k} h).0 (omega arith) in omega arith,
  λ l. let z = (div-lt_iff_lt-mul {x = t + (p - 1)} {y = suc k} h).1 (omega arith) in omega arith,
)

pub up_by_zero : (t : ℕ) → up t 0 ≡ 0
unfolding up
up_by_zero t = div-zero _

pub up_rises : (p : ℕ) {t u : ℕ} → t ≤ u → up t p ≤ up u p
up_rises p {t} {u} h =
    ⊎_elim (λ e. rw e (simp up_by_zero (omega arith)))
    (λ k. (up_least t (up u p) k).1 (le_trans h ((up_least u (up u p) k).0 (omega arith)))) (eq-zero-or-pos p)

pub up_le : (t p : ℕ) → up t p ≤ t
up_le t p =
    ⊎_elim (λ e. rw e (simp up_by_zero (omega arith))) (λ k. (up_least t t k).1 (le-mul_of_pos_right t k)) (eq-zero-or-pos p)

-- with no sum that may wrap
pub up_code : {t p : ℕ} → 0 < t → 0 < p → up t p ≡ (t - 1) / p + 1
unfolding up
up_code {t} {p} h k = ap (λ (n : ℕ). n / p) {x = t + (p - 1)} {y = (t - 1) + p} (omega arith) ∙ add-div_right (t - 1) k

pub up_zero : (p : ℕ) → up 0 p ≡ 0
unfolding up
up_zero p = ⊎_elim (λ e. rw e) (λ k. div-eq_of_lt (omega arith)) (eq-zero-or-pos p)

-- CHOICES

pub when_rises : (b : Bool) {x y : ℕ} → x ≤ y → when b x ≤ when b y
unfolding when
when_rises true h = h
when_rises false h = omega arith

-- where the first test passes, so does the second
pub when_within : (a b : Bool) (x : ℕ) → (a ≡ true → b ≡ true) → when a x ≤ when b x
unfolding when
when_within false b x h = omega arith
when_within true true x h = omega arith
when_within true false x h = absurd (false≢true (h refl))

pub when_le : (b : Bool) (x : ℕ) → when b x ≤ x
unfolding when
when_le true x = omega arith
when_le false x = omega arith

pub when_plus : (b : Bool) (x y : ℕ) → when b (x + y) ≡ when b x + when b y
unfolding when
when_plus true x y = refl
when_plus false x y = refl

pub when_and : (a b : Bool) (x : ℕ) → when (a && b) x ≡ when b (when a x)
unfolding when
when_and true true x = refl
when_and true false x = refl
when_and false true x = refl
when_and false false x = refl

pub max_rises : {a b c d : ℕ} → a ≤ c → b ≤ d → max a b ≤ max c d
max_rises h k = omega arith

-- SUMS

pub sum_one : {A : Type 0} (f : A → ℕ) (x : A) → sum f (x ∷ []) ≡ f x
unfolding sum
sum_one f x = omega arith

pub sum_append : {A : Type 0} (f : A → ℕ) (xs ys : List A) → sum f (xs ++ ys) ≡ sum f xs + sum f ys
unfolding sum
sum_append f [] ys = omega arith
sum_append f (x ∷ xs) ys = omega (arith, sum_append f xs ys)

pub sum_rises : {A : Type 0} (xs : List A) {f g : A → ℕ} → ((x : A) → f x ≤ g x) → sum f xs ≤ sum g xs
unfolding sum
sum_rises [] h = omega arith
sum_rises (x ∷ xs) h = add-le-add (h x) (sum_rises xs h)

pub sum_rises_on : {A : Type 0} (f g : A → ℕ) (xs : List A) → Each (λ x. f x ≤ g x) xs → sum f xs ≤ sum g xs
unfolding sum
sum_rises_on f g [] h = omega arith
sum_rises_on f g (x ∷ xs) h = add-le-add h.0 (sum_rises_on f g xs h.1)

pub sum_both : {A : Type 0} (f g : A → ℕ) (xs : List A) → sum (λ x. f x + g x) xs ≡ sum f xs + sum g xs
unfolding sum
sum_both f g [] = refl
sum_both f g (x ∷ xs) = omega (arith, sum_both f g xs)

pub sum_same : {A : Type 0} (xs : List A) {f g : A → ℕ} → ((x : A) → f x ≡ g x) → sum f xs ≡ sum g xs
unfolding sum
sum_same [] h = refl
sum_same (x ∷ xs) h = ap₂ ◌+◌ (h x) (sum_same xs h)

pub sum_zero : {A : Type 0} (f : A → ℕ) (xs : List A) → Each (λ x. f x ≡ 0) xs → sum f xs ≡ 0
unfolding sum
sum_zero f [] h = refl
sum_zero f (x ∷ xs) h = let a = h.0 in let c = sum_zero f xs h.1 in omega arith

-- no row above b
pub sum_bound : {A : Type 0} (xs : List A) (b : ℕ) {f : A → ℕ} → ((x : A) → f x ≤ b) → sum f xs ≤ length xs * b
unfolding sum
sum_bound [] b h = omega arith
sum_bound (x ∷ xs) b h = omega (arith, h x, sum_bound xs b h)

-- MAXIMA

pub greatest_one : {A : Type 0} (f : A → ℕ) (x : A) → greatest f (x ∷ []) ≡ f x
unfolding greatest
greatest_one f x = omega arith

pub greatest_append : {A : Type 0} (f : A → ℕ) (xs ys : List A) → greatest f (xs ++ ys) ≡ max (greatest f xs) (greatest f ys)
unfolding greatest
greatest_append f [] ys = omega arith
greatest_append f (x ∷ xs) ys = omega (arith, greatest_append f xs ys)

pub greatest_rises : {A : Type 0} (xs : List A) {f g : A → ℕ} → ((x : A) → f x ≤ g x) → greatest f xs ≤ greatest g xs
unfolding greatest
greatest_rises [] h = omega arith
greatest_rises (x ∷ xs) h = max_rises (h x) (greatest_rises xs h)

pub greatest_rises_on : {A : Type 0} (f g : A → ℕ) (xs : List A) → Each (λ x. f x ≤ g x) xs → greatest f xs ≤ greatest g xs
unfolding greatest
greatest_rises_on f g [] h = omega arith
greatest_rises_on f g (x ∷ xs) h = max_rises h.0 (greatest_rises_on f g xs h.1)

pub greatest_bound : {A : Type 0} (xs : List A) (b : ℕ) {f : A → ℕ} → ((x : A) → f x ≤ b) → greatest f xs ≤ b
unfolding greatest
greatest_bound [] b h = omega arith
greatest_bound (x ∷ xs) b h = max-le (h x) (greatest_bound xs b h)

pub greatest_same_on : {A : Type 0} (f g : A → ℕ) (xs : List A) → Each (λ x. f x ≡ g x) xs → greatest f xs ≡ greatest g xs
unfolding greatest
greatest_same_on f g [] h = refl
greatest_same_on f g (x ∷ xs) h = ap₂ max h.0 (greatest_same_on f g xs h.1)

-- a row that passes gives at least n: so does the greatest
pub greatest_row :
    {A : Type 0} (p : A → Bool) (f : A → ℕ) (n : ℕ) (xs : List A) → ((x : A) → p x ≡ true → n ≤ f x) → any p xs ≡ true → n ≤ greatest f xs
unfolding any greatest
greatest_row p f n [] h e = absurd (false≢true e)
greatest_row p f n (x ∷ xs) h e =
    let ih = greatest_row p f n xs h in
    ⊎_elim (λ q. let l = h x q in omega arith) (λ q. let l = ih q in omega arith) (either_of (p x) (any p xs) e)

-- TESTS

pub any_append : {A : Type 0} (f : A → Bool) (xs ys : List A) → any f (xs ++ ys) ≡ (any f xs || any f ys)
unfolding any
any_append f [] ys = refl
any_append f (x ∷ xs) ys = rw (any_append f xs ys, or_assoc)

pub all_append : {A : Type 0} (f : A → Bool) (xs ys : List A) → all f (xs ++ ys) ≡ (all f xs && all f ys)
unfolding all
all_append f [] ys = refl
all_append f (x ∷ xs) ys = rw (all_append f xs ys, and_assoc)

-- where no row passes, each fails
pub none_each : {A : Type 0} (f : A → Bool) (xs : List A) → any f xs ≡ false → Each (λ x. f x ≡ false) xs
unfolding any
none_each f [] h = tt
none_each f (x ∷ xs) h = (neither_left (f x) (any f xs) h, none_each f xs (neither_right (f x) (any f xs) h))

-- a row that passes f, and P holds of it; a test that it passes is passed by some row of xs
pub record Passing {A : Type 0} (f : A → Bool) (P : A → Type 0) (xs : List A) : Type 0 where
  pub row : A
  pub passes : f row ≡ true
  pub has : P row
  pub shows : (g : A → Bool) → g row ≡ true → any g xs ≡ true

-- where some row passes, and P holds of every row
pub any_row : {A : Type 0} (f : A → Bool) (P : A → Type 0) (xs : List A) → any f xs ≡ true → Each P xs → Passing f P xs
unfolding any
any_row f P [] e h = absurd (false≢true e)
any_row f P (x ∷ xs) e h =
    let ih = any_row f P xs in
    ⊎_elim (λ p. record { row = x; passes = p; has = h.0; shows = λ g t. either_left (g x) (any g xs) t })
    (λ p. let r = ih p h.1 in
    record { row = r.row; passes = r.passes; has = r.has; shows = λ g t. either_right (g x) (any g xs) (r.shows g t) })
    (either_of (f x) (any f xs) e)

-- the test of all, as a fact of each
pub all_each : {A : Type 0} (f : A → Bool) (xs : List A) → all f xs ≡ true → Each (λ x. f x ≡ true) xs
unfolding all
all_each f [] h = tt
all_each f (x ∷ xs) h = (both_left (f x) (all f xs) h, all_each f xs (both_right (f x) (all f xs) h))

pub each_all : {A : Type 0} (f : A → Bool) (xs : List A) → Each (λ x. f x ≡ true) xs → all f xs ≡ true
unfolding all
each_all f [] h = refl
each_all f (x ∷ xs) h = both (f x) (all f xs) h.0 (each_all f xs h.1)

pub all_same_on : {A : Type 0} (f g : A → Bool) (xs : List A) → Each (λ x. f x ≡ g x) xs → all f xs ≡ all g xs
unfolding all
all_same_on f g [] h = refl
all_same_on f g (x ∷ xs) h = ap₂ ◌&&◌ h.0 (all_same_on f g xs h.1)

pub each_append : {A : Type 0} (P : A → Type 0) (xs ys : List A) → Each P xs → Each P ys → Each P (xs ++ ys)
each_append P [] ys h k = k
each_append P (x ∷ xs) ys h k = (h.0, each_append P xs ys h.1 k)

-- what follows in each row
pub each_map : {A : Type 0} {P Q : A → Type 0} (xs : List A) → ((x : A) → P x → Q x) → Each P xs → Each Q xs
each_map [] g h = tt
each_map (x ∷ xs) g h = (g x h.0, each_map xs g h.1)

pub each_at_law : {A : Type 0} (P : A → Type 0) (xs : List A) (i : ℕ) (d : A) → Each P xs → i < length xs → P (get_or xs i d)
each_at_law P [] i d h l = absurd (omega arith)
each_at_law P (x ∷ xs) zero d h l = h.0
each_at_law P (x ∷ xs) (suc i) d h l = each_at_law P xs i d h.1 (omega arith)

-- MEMBERS

-- every row of xs is a member of it
pub members : {A : Type 0} (xs : List A) → Each (λ x. Memᴰ x xs) xs
members [] = tt
members (x ∷ xs) = (Memᴰ.head refl, each_map xs (λ y m. Memᴰ.tail m) (members xs))

-- what holds of each row holds of a member
pub each_has : {A : Type 0} (P : A → Type 0) {x : A} (xs : List A) → Each P xs → Memᴰ x xs → P x
each_has {A = A} P [] h x3 = elim x3 [ ]
each_has P (y ∷ xs) h (Memᴰ.head e) = subst P (sym e) h.0
each_has P (y ∷ xs) h (Memᴰ.tail m) = each_has P xs h.1 m

-- a member passes: so some row does
pub has_any : {A : Type 0} (f : A → Bool) {x : A} (xs : List A) → Memᴰ x xs → f x ≡ true → any f xs ≡ true
unfolding any
has_any {A = A} f [] x3 q = elim x3 [ ]
has_any f (y ∷ xs) (Memᴰ.head e) q = either_left (f y) (any f xs) (ap f (sym e) ∙ q)
has_any f (y ∷ xs) (Memᴰ.tail m) q = either_right (f y) (any f xs) (has_any f xs m q)

-- a test that says whether P holds: some row passes it exactly when P holds of some row
pub any_exactly : {A : Type 0} {P : A → Type 0} (f : A → Bool) (xs : List A) → ((x : A) → (f x ≡ true) ↔ P x) → (any f xs ≡ true) ↔ Has P xs
any_exactly f xs g = (
  λ e. let r = any_row f (λ x. Memᴰ x xs) xs e (members xs) in (r.row, r.has, (g r.row).0 r.passes),
  λ h. has_any f xs h.1 ((g h.0).1 h.2),
)

-- ROWS ONE AFTER THE OTHER

pub flat_append : {A B : Type 0} (f : A → List B) (xs ys : List A) → flat f (xs ++ ys) ≡ flat f xs ++ flat f ys
unfolding flat
flat_append f [] ys = refl
flat_append f (x ∷ xs) ys = rw (flat_append f xs ys, append_assoc)

pub flat_same_on : {A B : Type 0} (f g : A → List B) (xs : List A) → Each (λ x. f x ≡ g x) xs → flat f xs ≡ flat g xs
unfolding flat
flat_same_on f g [] h = refl
flat_same_on f g (x ∷ xs) h = ap₂ ◌++◌ h.0 (flat_same_on f g xs h.1)

pub each_flat : {A B : Type 0} (P : B → Type 0) (f : A → List B) (xs : List A) → Each (λ x. Each P (f x)) xs → Each P (flat f xs)
unfolding flat
each_flat P f [] h = tt
each_flat P f (x ∷ xs) h = each_append P (f x) (flat f xs) h.0 (each_flat P f xs h.1)

-- CHOSEN ROWS

module _ {A : Type 0} (f : A → Bool) where
  pub only_in : (x : A) (xs : List A) → f x ≡ true → only f (x ∷ xs) ≡ x ∷ only f xs
  unfolding only
  only_in x xs e = rw (e, only)

  pub only_out : (x : A) (xs : List A) → f x ≡ false → only f (x ∷ xs) ≡ only f xs
  unfolding only
  only_out x xs e = rw (e, only)

  pub sum_only : (g : A → ℕ) (xs : List A) → sum g (only f xs) ≡ sum (λ x. when (f x) (g x)) xs
  unfolding sum only
  sum_only g [] = refl
  sum_only g (x ∷ xs) = go (f x) refl (sum_only g xs)
    where
      go :
          (t : Bool) → f x ≡ t → sum g (only f xs) ≡ sum (λ y. when (f y) (g y)) xs →
          sum g (only f (x ∷ xs)) ≡ when t (g x) + sum (λ y. when (f y) (g y)) xs
      go true e h = rw (only_in x xs e) (unfold when in ap (λ n. g x + n) h)
      go false e h = rw (only_out x xs e) (unfold when in omega arith)

  pub first_in_law : (d x : A) (xs : List A) → f x ≡ true → first f d (x ∷ xs) ≡ x
  unfolding first
  first_in_law d x xs e = rw (e, first)

  pub first_out_law : (d x : A) (xs : List A) → f x ≡ false → first f d (x ∷ xs) ≡ first f d xs
  unfolding first
  first_out_law d x xs e = rw (e, first)

  -- no row passes
  pub first_none : (d : A) (xs : List A) → any f xs ≡ false → first f d xs ≡ d
  unfolding any
  first_none d [] h = unfold first in refl
  first_none d (x ∷ xs) h = first_out_law d x xs (neither_left (f x) (any f xs) h) ∙ first_none d xs (neither_right (f x) (any f xs) h)

-- what holds of every row holds of the first row that passes; where none does, it must hold of d
pub first_each :
    {A : Type 0} (f : A → Bool) (P : A → Type 0) (d : A) (xs : List A) → (any f xs ≡ false → P d) → Each P xs → P (first f d xs)
unfolding any first
first_each f P d [] k h = k refl
first_each f P d (x ∷ xs) k h = go (f x) refl (first_each f P d xs)
  where
    go : (t : Bool) → f x ≡ t → ((any f xs ≡ false → P d) → Each P xs → P (first f d xs)) → P (elim t [ true ↦ x | false ↦ first f d xs ])
    go true e ih = h.0
    go false e ih = ih (λ q. k (neither (f x) (any f xs) e q)) h.1

-- MONOTONICITY

-- what proves that a demand rises, from `h : t ≤ u` in reach: `search rise depth 9`
pub ruleset rise = (le_refl, add-le-add, mul-le-mul, up_rises, when_rises, sum_rises, greatest_rises, max_rises)

-- CAPS

pub cap_mul_left : (a b c : ℕ) → min (min a c * b) c ≡ min (a * b) c
cap_mul_left a zero c = simp mul-zero
cap_mul_left a (suc b) c =
    by_cases (dec_le a c) (λ h. rw (min-eq_left h)) (λ h. rw (min-eq_right {n = c} {m = a} (omega arith)) (omega arith))

pub cap_mul_right : (a b c : ℕ) → min (a * min b c) c ≡ min (a * b) c
cap_mul_right a b c = rw (mul_comm a (min b c), cap_mul_left b a c, mul_comm b a)
