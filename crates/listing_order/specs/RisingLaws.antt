-- Laws of the tasks as they rise: each task of the plan is taken once, or, where v or n is out of range, not at all.
use Prim.Native.Nat.{ℕ, zero, suc, ◌+◌, ◌≤◌, ◌<◌}
use Rattle.std.specs.Prelude.{◌≡◌, Bool, true, ◌&&◌, List, [], ◌∷◌, leb, length}
use Rattle.std.proofs.Math.Path.{refl, ap₂, sym}
use Rattle.std.proofs.Common.{ap, ◌∙◌, ⊎_elim, le_trans, eq-or-lt_of_le, arith, le-leb, leb-true, leb-false, eqb-true, length-append}
use Rattle.std.proofs.Math.Bool.{false}
use Rattle.std.proofs.lemmas.Bool.{lt-leb, eqb-false}
use Rattle.std.proofs.Math.Dec.{eqb}
use Rattle.laws.specs.BoolLaws.{both, miss_right}
use Rattle.laws.specs.Choice.{when}
use Rattle.laws.specs.Sums.{sum, flat, Each}
use Rattle.laws.specs.SumLaws.{sum_append, sum_both, sum_same, sum_rises, sum_only, when_le, when_and}
use Rattle.laws.specs.Range.{flat_to}
use Rattle.plan.specs.Limits.{max_v, max_n}
use Rattle.plan.specs.Plan.{Task}
use Rattle.plan.specs.Rules.{within}
use Rattle.figures.specs.System.{System}
use Rattle.listing.specs.Listing.{rising}

-- LENGTHS AS SUMS

pub length_sum : {A : Type 0} (xs : List A) → length xs ≡ sum (λ x. 1) xs
unfolding sum
length_sum [] = refl
length_sum (x ∷ xs) = omega (arith, length_sum xs)

pub length_flat : {A B : Type 0} (f : A → List B) (xs : List A) → length (flat f xs) ≡ sum (λ x. length (f x)) xs
unfolding flat sum
length_flat f [] = refl
length_flat f (x ∷ xs) = length-append (f x) (flat f xs) ∙ ap (λ n. length (f x) + n) (length_flat f xs)

sum_none : {A : Type 0} (f : A → ℕ) (xs : List A) → ((x : A) → f x ≡ 0) → sum f xs ≡ 0
unfolding sum
sum_none f [] h = refl
sum_none f (x ∷ xs) h = omega (arith, h x, sum_none f xs h)

-- CHOICES

when_in : {b : Bool} (x : ℕ) → b ≡ true → when b x ≡ x
unfolding when
when_in x e = rw (e, when)

when_out : {b : Bool} (x : ℕ) → b ≡ false → when b x ≡ 0
unfolding when
when_out x e = rw (e, when)

when_true : (x : ℕ) → when true x ≡ x
when_true x = when_in x refl

when_false : (x : ℕ) → when false x ≡ 0
when_false x = when_out x refl

when_swap : (a b : Bool) (x : ℕ) → when a (when b x) ≡ when b (when a x)
unfolding when
when_swap true true x = refl
when_swap true false x = refl
when_swap false true x = refl
when_swap false false x = refl

above_next : (j n : ℕ) → n < j → (j ≡ suc n → ⊥) → suc n < j
above_next j n h e = ⊎_elim (λ p. absurd (e (sym p))) (λ l. l) (eq-or-lt_of_le h)

-- a number up to n, or the next one, is a number up to the next one
within_next : (j n x : ℕ) → when (within j 1 n) x + when (eqb j (suc n)) x ≡ when (within j 1 (suc n)) x
within_next j n x = go (leb j n) refl (eqb j (suc n)) refl
  where
    go : (p : Bool) → leb j n ≡ p → (q : Bool) → eqb j (suc n) ≡ q → when (within j 1 n) x + when q x ≡ when (within j 1 (suc n)) x
    go true e true f = absurd (omega (arith, leb-true j n e, eqb-true j (suc n) f))
    go true e false f =
        let h : leb j (suc n) ≡ true = le-leb j (suc n) (omega (arith, leb-true j n e)) in
        omega (arith, ap (λ b. when (leb 1 j && b) x) (e ∙ sym h), when_false x)
    go false e true f =
        let h : j ≡ suc n = eqb-true j (suc n) f in
        omega (
          arith,
          when_out x (miss_right (leb 1 j) (leb j n) e),
          when_true x,
          when_in x (both (leb 1 j) (leb j (suc n)) (le-leb 1 j (omega arith)) (le-leb j (suc n) (omega arith))),
        )
    go false e false f =
        let h : suc n < j = above_next j n (leb-false j n e) (eqb-false j (suc n) f) in
        omega (
          arith,
          when_out x (miss_right (leb 1 j) (leb j n) e),
          when_false x,
          when_out x (miss_right (leb 1 j) (leb j (suc n)) (lt-leb j (suc n) h)),
        )

-- BUCKETS: the rows with key 1, then those with key 2, and so on to n

module _ {A : Type 0} (g f : A → ℕ) (key : A → ℕ) (ks : List A) (h : ℕ → List A) (each : (v : ℕ) → sum g (h v) ≡ sum (λ k. when (eqb (key k) v) (f k)) ks) where
  pub bucket_sum : (n : ℕ) → sum g (flat_to n h) ≡ sum (λ k. when (within (key k) 1 n) (f k)) ks
  unfolding flat_to
  bucket_sum zero =
      unfold sum in sym (sum_none _ ks (λ k. when_out (f k) (none (key k))))
    where
      none : (j : ℕ) → within j 1 0 ≡ false
      none zero = refl
      none (suc j) = miss_right (leb 1 (suc j)) (leb (suc j) 0) (lt-leb (suc j) 0 (omega arith))
  bucket_sum (suc n) =
      sum_append g (flat_to n h) (h (suc n))
      ∙ ap₂ ◌+◌ (bucket_sum n) (each (suc n))
      ∙ sym (sum_both _ _ ks)
      ∙ sum_same ks (λ k. within_next (key k) n (f k))

-- THE TASKS AS THEY RISE

module _ (g : Task → ℕ) (s : System) where
  -- each task counts once, where v and n are in range
  pub rising_sum : sum g (rising s) ≡ sum (λ k. when (within k.v 1 max_v) (when (within k.n 1 max_n) (g k))) s.tasks
  unfolding rising
  rising_sum =
      bucket_sum g (λ k. when (within k.n 1 max_n) (g k)) (λ k. k.v) s.tasks _
      (λ v.
      bucket_sum g (λ k. when (eqb k.v v) (g k)) (λ k. k.n) s.tasks _
      (λ n. sum_only (λ k. eqb k.v v && eqb k.n n) g s.tasks ∙ sum_same s.tasks (λ k. when_and (eqb k.v v) (eqb k.n n) (g k)))
      max_n
      ∙ sum_same s.tasks (λ k. when_swap (within k.n 1 max_n) (eqb k.v v) (g k)))
      max_v

  pub rising_most : sum g (rising s) ≤ sum g s.tasks
  rising_most =
      rw rising_sum
      (sum_rises s.tasks (λ k. le_trans (when_le (within k.v 1 max_v) _) (when_le (within k.n 1 max_n) (g k))))

-- no task is taken twice
pub rising_flat : {B : Type 0} (f : Task → List B) (s : System) → length (flat f (rising s)) ≤ length (flat f s.tasks)
rising_flat f s = rw (length_flat f (rising s), length_flat f s.tasks) (rising_most (λ k. length (f k)) s)

pub rising_no_more : (s : System) → length (rising s) ≤ length s.tasks
rising_no_more s = rw (length_sum (rising s), length_sum s.tasks) (rising_most (λ k. 1) s)

-- v and n as a valid plan has them
abbrev pub InRange : Task → Type 0
InRange k = (within k.v 1 max_v ≡ true) × (within k.n 1 max_n ≡ true)

all_in : (ks : List Task) → Each InRange ks → sum (λ k. when (within k.v 1 max_v) (when (within k.n 1 max_n) 1)) ks ≡ sum (λ k. 1) ks
unfolding sum
all_in [] e = refl
all_in (k ∷ ks) e = ap₂ ◌+◌ (when_in _ e.0.0 ∙ when_in 1 e.0.1) (all_in ks e.1)

-- every task is taken
pub rising_all : (s : System) → Each InRange s.tasks → length (rising s) ≡ length s.tasks
rising_all s h = length_sum (rising s) ∙ rising_sum (λ k. 1) s ∙ all_in s.tasks h ∙ sym (length_sum s.tasks)
