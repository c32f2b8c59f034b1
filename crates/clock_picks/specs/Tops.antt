-- The topmost by a measure: where the measure is the name itself, and where it raises some names above all others.
use Rattle.std.specs.Prelude.{ℕ, ◌+◌, ◌<◌, ◌≤◌, ◌≡◌, refl, Bool, true, false, ◌&&◌}
use Rattle.std.proofs.Common.{sym, ◌∙◌, inr, ⊎_elim, eq-zero-or-pos, arith}
use Rattle.laws.specs.Range.{any_to, highest}
use Rattle.laws.specs.RangeLaws.{highest_le, highest_passes, highest_least, highest_zero}
use Rattle.laws.specs.BoolLaws.{both, both_left, both_right, bool_cases, clash}
use Rattle.laws_picks.specs.Picks.{top_of}
use Rattle.laws_picks.specs.PickLaws.{top_zero, top_found}
use Rattle.clock_picks.specs.Scans.{scan_all}

module _ (n : ℕ) (f : ℕ → Bool) (p : ℕ → ℕ) where
  -- k passes, none that passes has a greater measure, and none above k has as great a one
  pub top_is : (k : ℕ) → 0 < k → k ≤ n → f k ≡ true → ((j : ℕ) → 0 < j → j ≤ n → f j ≡ true → 0 < p j)
      → ((j : ℕ) → 0 < j → j ≤ n → f j ≡ true → p j ≤ p k) → ((j : ℕ) → k < j → j ≤ n → f j ≡ true → p j < p k) → k ≡ top_of n f p
  top_is k g l e pos most above =
      scan_all {k = 0} pos
      (record { within = omega arith; most = most; none_or = inr (record { seen = g; to = l; is = e; measure = refl; before = above }) })
      (omega arith)

  -- the measure is the name: the highest
  pub top_plain : ((j : ℕ) → 0 < j → j ≤ n → f j ≡ true → p j ≡ j) → highest n f ≡ top_of n f p
  top_plain h =
      ⊎_elim
      (λ z. z ∙ sym ((top_zero n f p).0 ((highest_zero n f).1 z)))
      (λ g.
      let own = h (highest n f) g (highest_le n f) (highest_passes n f g) in
      top_is (highest n f) g (highest_le n f) (highest_passes n f g)
      (λ j a l e. let q = h j a l e in omega arith)
      (λ j a l e. let q = h j a l e in let y = highest_least n j f l e in omega arith)
      (λ j a l e. let y = highest_least n j f l e in absurd (omega arith)))
      (eq-zero-or-pos (highest n f))

  -- one alone passes: that one, whatever the measure
  pub top_one : (k : ℕ) → 0 < k → k ≤ n → f k ≡ true → ((j : ℕ) → 0 < j → j ≤ n → f j ≡ true → j ≡ k) → k ≡ top_of n f p
  top_one k g l e alone = let r = top_found n f p k g l e in sym (alone (top_of n f p) r.in_range_law.from r.in_range_law.to r.is_passed)

  -- some names are raised above all others: the highest of these, where one passes
  module _ (g : ℕ → Bool) (raised : (j : ℕ) → 0 < j → j ≤ n → f j ≡ true → g j ≡ true → p j ≡ n + j)
      (plain : (j : ℕ) → 0 < j → j ≤ n → f j ≡ true → g j ≡ false → p j ≡ j) where
    pub top_raised : any_to n (λ j. f j && g j) ≡ true → highest n (λ j. f j && g j) ≡ top_of n f p
    top_raised some = ⊎_elim (λ z. absurd (clash some ((highest_zero n (λ j. f j && g j)).1 z))) found (eq-zero-or-pos (highest n (λ j. f j && g j)))
      where
        found : 0 < highest n (λ j. f j && g j) → highest n (λ j. f j && g j) ≡ top_of n f p
        found o =
            let k = highest n (λ j. f j && g j) in
            let l : k ≤ n = highest_le n (λ j. f j && g j) in
            let t = highest_passes n (λ j. f j && g j) o in
            let e : f k ≡ true = both_left (f k) (g k) t in
            let own : p k ≡ n + k = raised k o l e (both_right (f k) (g k) t) in
            let least : (j : ℕ) → j ≤ n → f j ≡ true → g j ≡ true → j ≤ k = λ j b q y. highest_least n j (λ j. f j && g j) b (both (f j) (g j) q y) in
            top_is k o l e
            (λ j a b q. ⊎_elim (λ y. let z = raised j a b q y in omega arith) (λ y. let z = plain j a b q y in omega arith) (bool_cases (g j)))
            (λ j a b q. ⊎_elim (λ y. let z = raised j a b q y in let w = least j b q y in omega arith) (λ y. let z = plain j a b q y in omega arith) (bool_cases (g j)))
            (λ j a b q. ⊎_elim (λ y. let w = least j b q y in absurd (omega arith)) (λ y. let z = plain j (omega arith) b q y in omega arith) (bool_cases (g j)))
