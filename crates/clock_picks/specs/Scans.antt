-- Scans of the numbers from 1 to n from the highest down, for the topmost by a measure.
use Rattle.std.specs.Prelude.{ℕ, ◌-◌, ◌<◌, ◌≤◌, ◌≡◌, refl, Bool, false, ◌||◌, not, ◌⊎◌, leb}
use Rattle.std.proofs.Math.Path.{sym}
use Rattle.std.proofs.Common.{◌∙◌, ap, inl, inr, arith, le-leb}
use Rattle.std.proofs.Math.Bool.{true}
use Rattle.std.proofs.Math.Logic.{⊎_elim}
use Rattle.std.proofs.lemmas.Bool.{lt-leb}
use Rattle.laws.specs.Range.{highest}
use Rattle.laws.specs.RangeLaws.{none_of, all_of, all_miss, highest_is, highest_zero}
use Rattle.laws.specs.BoolLaws.{both, bool_cases, is_false, clash, same_or_not}
use Rattle.laws_picks.specs.Picks.{is_top, top_of}

-- what is known of a topmost one when those above k are seen: none passes, or `best` is it, and `high` its measure
pub record Best (n : ℕ) (f : ℕ → Bool) (p : ℕ → ℕ) (k best high : ℕ) : Type 0 where
  pub seen : k < best
  pub to : best ≤ n
  pub is : f best ≡ true
  pub measure : high ≡ p best
  pub before : (j : ℕ) → best < j → j ≤ n → f j ≡ true → p j < high

pub record Scanned (n : ℕ) (f : ℕ → Bool) (p : ℕ → ℕ) (k best high : ℕ) : Type 0 where
  pub within : k ≤ n
  pub most : (j : ℕ) → k < j → j ≤ n → f j ≡ true → p j ≤ high
  pub none_or : ((best ≡ 0) × (high ≡ 0)) ⊎ Best n f p k best high

module _ {n : ℕ} {f : ℕ → Bool} {p : ℕ → ℕ} where
  pub scan_none : Scanned n f p n 0 0
  scan_none = record { within = omega arith; most = λ j a b. absurd (omega arith); none_or = inl (refl, refl) }

  fewer : {k best high : ℕ} → Best n f p k best high → Best n f p (k - 1) best high
  fewer b = record { seen = let h = b.seen in omega arith; to = b.to; is = b.is; measure = b.measure; before = b.before }

  fewer_or : {k best high : ℕ} → ((best ≡ 0) × (high ≡ 0)) ⊎ Best n f p k best high → ((best ≡ 0) × (high ≡ 0)) ⊎ Best n f p (k - 1) best high
  fewer_or (inl e) = inl e
  fewer_or (inr b) = inr (fewer b)

  -- k itself is not above: it does not pass, or its measure is not greater
  pub scan_leave : {k best high : ℕ} → Scanned n f p k best high → 0 < k → (f k ≡ true → p k ≤ high) → Scanned n f p (k - 1) best high
  scan_leave {k} {best} {high} t g h = record { within = let w = t.within in omega arith; most = most; none_or = fewer_or t.none_or }
    where
      most : (j : ℕ) → k - 1 < j → j ≤ n → f j ≡ true → p j ≤ high
      most j a b e = ⊎_elim (λ q. let i = ap p q in let m = h (ap f (sym q) ∙ e) in omega arith) (λ ne. t.most j (omega arith) b e) (same_or_not j k)

  -- k passes with a greater measure
  pub scan_take : {k best high : ℕ} → Scanned n f p k best high → 0 < k → f k ≡ true → high < p k → Scanned n f p (k - 1) k (p k)
  scan_take {k} {best} {high} t g e l = record {
    within = let w = t.within in omega arith;
    most = most;
    none_or = inr (record { seen = omega arith; to = t.within; is = e; measure = refl; before = λ j a b q. let m = t.most j a b q in omega arith });
  }
    where
      most : (j : ℕ) → k - 1 < j → j ≤ n → f j ≡ true → p j ≤ p k
      most j a b q = ⊎_elim (λ s. let i = ap p s in omega arith) (λ ne. let m = t.most j (omega arith) b q in omega arith) (same_or_not j k)

  -- the same for values that equal these
  pub scan_left : {k best high best' high' : ℕ} → Scanned n f p k best high → 0 < k → (f k ≡ true → p k ≤ high) → best' ≡ best → high' ≡ high
      → Scanned n f p (k - 1) best' high'
  scan_left t g h d e = rw (d, e) (scan_leave t g h)

  pub scan_took : {k best high best' high' q : ℕ} → Scanned n f p k best high → 0 < k → f k ≡ true → q ≡ p k → high < q → best' ≡ k → high' ≡ q
      → Scanned n f p (k - 1) best' high'
  scan_took t g i o h d e = rw (d, e, o) (scan_take t g i (rw o at h))

  -- all are seen: where every measure of one that passes is above 0
  pub scan_all : {k best high : ℕ} → ((j : ℕ) → 0 < j → j ≤ n → f j ≡ true → 0 < p j) → Scanned n f p k best high → k ≤ 0 → best ≡ top_of n f p
  unfolding top_of
  scan_all {k} {best} {high} pos t z = ⊎_elim none some t.none_or
    where
      none : ((best ≡ 0) × (high ≡ 0)) → best ≡ highest n (is_top n f p)
      none (b, h) =
          b ∙ sym ((highest_zero n (is_top n f p)).0 (none_of n (is_top n f p) (λ j a c.
          is_false (is_top n f p j) (λ e. ⊎_elim
          (λ y. let m = t.most j (omega arith) c y in let q = pos j a c y in absurd (omega arith))
          (λ y. absurd (clash (only_passes j e) y)) (bool_cases (f j))))))
        where
          only_passes : (j : ℕ) → is_top n f p j ≡ true → f j ≡ true
          only_passes j e = ⊎_elim (λ y. y) (λ y. absurd (clash e (rw y))) (bool_cases (f j))

      some : Best n f p k best high → best ≡ highest n (is_top n f p)
      some b =
          sym (highest_is n best (is_top n f p) (let s = b.seen in omega arith) b.to
          (both (f best) _ b.is (all_of n (λ j. not (f j) || leb (p j) (p best)) (λ j a c. below j a c)))
          (λ j a c. above j a c))
        where
          below : (j : ℕ) → 0 < j → j ≤ n → (not (f j) || leb (p j) (p best)) ≡ true
          below j a c = ⊎_elim (λ y. rw y (le-leb (p j) (p best) (let m = t.most j (omega arith) c y in let q = b.measure in omega arith))) (λ y. rw y) (bool_cases (f j))

          above : (j : ℕ) → best < j → j ≤ n → is_top n f p j ≡ false
          above j a c =
              ⊎_elim
              (λ y. rw y (all_miss n best (λ i. not (f i) || leb (p i) (p j)) (let s = b.seen in omega arith) b.to
              (rw b.is (lt-leb (p best) (p j) (let m = b.before j a c y in let q = b.measure in omega arith)))))
              (λ y. rw y)
              (bool_cases (f j))
