-- Laws of the lowest and the topmost of the numbers from 1 to n that pass a test.
use Rattle.std.specs.Prelude.{ℕ, zero, suc, ◌<◌, ◌≤◌, ◌≡◌, refl, Bool, true, false, ◌||◌, not, ◌⊎◌, ◌↔◌, leb}
use Rattle.std.proofs.Common.{sym, ap, ◌∙◌, inl, inr, ⊎_elim, eq-zero-or-pos, leb-true, le-leb}
use native.Mathlib.Omega.{arith}
use Rattle.std.proofs.Math.Decide.{dec_le}
use Rattle.laws.specs.Choice.{when}
use Rattle.laws.specs.Range.{OneTo, any_to}
use Rattle.laws.specs.RangeLaws.{none_at, any_hit, all_at, all_of, highest_le, highest_passes, highest_least}
use Rattle.laws.specs.BoolLaws.{both_left, both_right, both, neither_left, neither_right, either_left, either_right, either_of, or_else, clash, bool_cases, is_false}
use Rattle.laws_picks.specs.Picks.{lowest, is_top, top_of}

-- k is at most n + 1: it is at most n, or it is n + 1
below_or_last : (n k : ℕ) → k ≤ suc n → (k ≤ n) ⊎ (k ≡ suc n)
below_or_last n k h = at_test (dec_le k n)
  where
    at_test : Dec (k ≤ n) → (k ≤ n) ⊎ (k ≡ suc n)
    at_test (yes l) = inl l
    at_test (no l) = inr (omega arith)

-- where some of n + 1 numbers passes and none of the first n does, the last does
last_passes : (n : ℕ) (f : ℕ → Bool) → any_to (suc n) f ≡ true → any_to n f ≡ false → f (suc n) ≡ true
unfolding any_to
last_passes n f e q = ⊎_elim (λ p. p) (λ p. absurd (clash p q)) (either_of (f (suc n)) (any_to n f) e)

-- THE LOWEST

-- one number more changes nothing where one before it passes
lowest_before : (n : ℕ) (f : ℕ → Bool) → any_to n f ≡ true → lowest (suc n) f ≡ lowest n f
unfolding lowest
lowest_before n f e = rw (e, lowest)

-- it is the lowest where none before it passes and it does
lowest_last : (n : ℕ) (f : ℕ → Bool) → any_to n f ≡ false → f (suc n) ≡ true → lowest (suc n) f ≡ suc n
unfolding lowest when
lowest_last n f e q = rw (e, q, lowest, when)

-- 0 where none passes
lowest_none : (n : ℕ) (f : ℕ → Bool) → any_to n f ≡ false → lowest n f ≡ 0
unfolding lowest when any_to
lowest_none zero f e = refl
lowest_none (suc n) f e = rw (neither_right (f (suc n)) (any_to n f) e, neither_left (f (suc n)) (any_to n f) e, lowest, when)

-- k passes, and no lower number does
record Least (n : ℕ) (f : ℕ → Bool) (k : ℕ) : Type 0 where
  in_range_law : OneTo n k
  is_passed : f k ≡ true
  is_least : (j : ℕ) → 0 < j → j ≤ n → f j ≡ true → k ≤ j

-- the lowest is such where some number passes
some_lowest : (n : ℕ) (f : ℕ → Bool) → any_to n f ≡ true → Least n f (lowest n f)
unfolding any_to
some_lowest zero f e = absurd (clash e refl)
some_lowest (suc n) f e =
    ⊎_elim (λ p. rw (lowest_before n f p) (before (some_lowest n f p))) (λ p. rw (lowest_last n f p (last_passes n f e p)) (last p)) (bool_cases (any_to n f))
  where
    before : Least n f (lowest n f) → Least (suc n) f (lowest n f)
    before ih = record {
      in_range_law = record { from = ih.in_range_law.from; to = let h = ih.in_range_law.to in omega arith };
      is_passed = ih.is_passed;
      is_least = λ j a l t. ⊎_elim (λ h. ih.is_least j a h t) (λ h. let k = ih.in_range_law.to in omega arith) (below_or_last n j l);
    }

    last : any_to n f ≡ false → Least (suc n) f (suc n)
    last p = record {
      in_range_law = record { from = omega arith; to = omega arith };
      is_passed = last_passes n f e p;
      is_least = λ j a l t. ⊎_elim (λ h. absurd (clash t (none_at n j f p a h))) (λ h. omega arith) (below_or_last n j l);
    }

-- the lowest is at most n
pub lowest_le : (n : ℕ) (f : ℕ → Bool) → lowest n f ≤ n
lowest_le n f = ⊎_elim (λ p. (some_lowest n f p).in_range_law.to) (λ p. let z = lowest_none n f p in omega arith) (bool_cases (any_to n f))

-- where it is not 0, it passes
pub lowest_passes : (n : ℕ) (f : ℕ → Bool) → 0 < lowest n f → f (lowest n f) ≡ true
lowest_passes n f h = ⊎_elim (λ p. (some_lowest n f p).is_passed) (λ p. absurd (let z = lowest_none n f p in omega arith)) (bool_cases (any_to n f))

-- what passes is not below it
pub lowest_least : (n k : ℕ) (f : ℕ → Bool) → 0 < k → k ≤ n → f k ≡ true → lowest n f ≤ k
lowest_least n k f g h e = (some_lowest n f (any_hit n k f g h e)).is_least k g h e

-- 0 just where no number passes
pub lowest_zero : (n : ℕ) (f : ℕ → Bool) → (any_to n f ≡ false) ↔ (lowest n f ≡ 0)
lowest_zero n f = (lowest_none n f, λ e. is_false (any_to n f) (λ p. let h = (some_lowest n f p).in_range_law.from in omega arith))

-- THE TOPMOST

-- k passes, and none that passes has a greater p
pub record Topmost (n : ℕ) (f : ℕ → Bool) (p : ℕ → ℕ) (k : ℕ) : Type 0 where
  pub in_range_law : OneTo n k
  pub is_passed : f k ≡ true
  pub is_most : (j : ℕ) → 0 < j → j ≤ n → f j ≡ true → p j ≤ p k

-- a number, and that it is such
record Peak (n : ℕ) (f : ℕ → Bool) (p : ℕ → ℕ) : Type 0 where
  at : ℕ
  is : Topmost n f p at

-- where some number passes there is one
some_peak : (n : ℕ) (f : ℕ → Bool) (p : ℕ → ℕ) → any_to n f ≡ true → Peak n f p
unfolding any_to
some_peak zero f p e = absurd (clash e refl)
some_peak (suc n) f p e =
    ⊎_elim (λ q. over (some_peak n f p q)) (λ q. last (last_passes n f e q) (λ j a l t. absurd (clash t (none_at n j f q a l)))) (bool_cases (any_to n f))
  where
    last : f (suc n) ≡ true → ((j : ℕ) → 0 < j → j ≤ n → f j ≡ true → p j ≤ p (suc n)) → Peak (suc n) f p
    last t most = record {
      at = suc n;
      is = record {
        in_range_law = record { from = omega arith; to = omega arith };
        is_passed = t;
        is_most = λ j a l q. ⊎_elim (λ h. most j a h q) (λ h. let z = ap p h in omega arith) (below_or_last n j l);
      };
    }

    kept : (r : Peak n f p) → (f (suc n) ≡ true → p (suc n) ≤ p r.at) → Peak (suc n) f p
    kept r less =
        let i = r.is in
        record {
          at = r.at;
          is = record {
            in_range_law = record { from = i.in_range_law.from; to = let h = i.in_range_law.to in omega arith };
            is_passed = i.is_passed;
            is_most = λ j a l q. ⊎_elim (λ h. i.is_most j a h q) (λ h. let z = ap p h in let y = less (ap f (sym h) ∙ q) in omega arith) (below_or_last n j l);
          };
        }

    by_measure : (r : Peak n f p) → f (suc n) ≡ true → Dec (p r.at ≤ p (suc n)) → Peak (suc n) f p
    by_measure r t (yes h) = last t (λ j a l q. let z = r.is.is_most j a l q in omega arith)
    by_measure r t (no h) = kept r (λ q. omega arith)

    over : Peak n f p → Peak (suc n) f p
    over r = ⊎_elim (λ t. by_measure r t (dec_le (p r.at) (p (suc n)))) (λ t. kept r (λ q. absurd (clash q t))) (bool_cases (f (suc n)))

module _ (n : ℕ) (f : ℕ → Bool) (p : ℕ → ℕ) where
  -- who passes the test of the pick is topmost
  top_test : (k : ℕ) → OneTo n k → is_top n f p k ≡ true → Topmost n f p k
  top_test k i e = record {
    in_range_law = i;
    is_passed = both_left (f k) _ e;
    is_most = λ j a l t. leb-true (p j) (p k) (or_else (not (f j)) _ (all_at n j (λ j. not (f j) || leb (p j) (p k)) (both_right (f k) _ e) a l) (ap not t));
  }

  -- and the topmost pass it
  test_top : (k : ℕ) → Topmost n f p k → is_top n f p k ≡ true
  test_top k r =
      both (f k) _ r.is_passed
      (all_of n (λ j. not (f j) || leb (p j) (p k))
      (λ j a l. ⊎_elim (λ t. either_right (not (f j)) _ (le-leb (p j) (p k) (r.is_most j a l t))) (λ t. either_left (not (f j)) _ (ap not t)) (bool_cases (f j))))

  -- the pick is at most n
  pub top_le : top_of n f p ≤ n
  unfolding top_of
  top_le = highest_le n (is_top n f p)

  -- where it is not 0, it passes and none that passes has a greater p
  pub top_most : 0 < top_of n f p → Topmost n f p (top_of n f p)
  unfolding top_of
  top_most h = top_test (top_of n f p) (record { from = h; to = top_le }) (highest_passes n (is_top n f p) h)

  -- where it is not 0, it passes
  pub top_passes : 0 < top_of n f p → f (top_of n f p) ≡ true
  top_passes h = (top_most h).is_passed

  -- it is not 0 where some number passes
  top_some : any_to n f ≡ true → 0 < top_of n f p
  unfolding top_of
  top_some e =
      let r = some_peak n f p e in
      let h = highest_least n r.at (is_top n f p) r.is.in_range_law.to (test_top r.at r.is) in
      let z = r.is.in_range_law.from in omega arith

  -- where a number passes there is a pick
  pub top_found : (k : ℕ) → 0 < k → k ≤ n → f k ≡ true → Topmost n f p (top_of n f p)
  top_found k g h e = top_most (top_some (any_hit n k f g h e))

  -- 0 just where no number passes
  pub top_zero : (any_to n f ≡ false) ↔ (top_of n f p ≡ 0)
  top_zero = (none, λ e. is_false (any_to n f) (λ q. let h = top_some q in omega arith))
    where
      none : any_to n f ≡ false → top_of n f p ≡ 0
      none e =
          ⊎_elim (λ z. z) (λ h. absurd (let r = top_most h in clash r.is_passed (none_at n (top_of n f p) f e h r.in_range_law.to))) (eq-zero-or-pos (top_of n f p))
