-- Laws of reading a cell: of a list made of parts, and of lists over the names from 1 to n.
use Prim.Native.Nat.{ℕ, zero, suc, ◌+◌, ◌-◌, ◌*◌, ◌<◌, ◌≤◌}
use Rattle.std.specs.Prelude.{◌≡◌, refl, List, [], ◌∷◌}
use Rattle.std.proofs.Common.{sym, ◌∙◌, eq-or-lt_of_le, le_of_suc-le-suc, length-append, get_or-append-add}
use Rattle.std.proofs.Math.Path.{ap}
use Rattle.std.proofs.Math.Logic.{⊎_elim}
use Rattle.std.proofs.Math.Nat.{mul-le-mul_right}
use native.Mathlib.Omega.{arith}
use Rattle.std.proofs.Math.ListN.{length, get_or, get_or-append}
use Rattle.laws.specs.Sums.{flat}
use Rattle.laws.specs.Range.{list_to, flat_to, OneTo}
use Rattle.laws.specs.RangeLaws.{list_at}

-- PARTS

-- where part k begins
abbrev pub start_of : List (List ℕ) → ℕ → ℕ
start_of [] k = 0
start_of (p ∷ ps) zero = 0
start_of (p ∷ ps) (suc k) = length p + start_of ps k

abbrev pub part_of : List (List ℕ) → ℕ → List ℕ
part_of [] k = []
part_of (p ∷ ps) zero = p
part_of (p ∷ ps) (suc k) = part_of ps k

pub part_at : (ps : List (List ℕ)) (k i : ℕ) → i < length (part_of ps k) → get_or (flat (λ l. l) ps) (start_of ps k + i) 0 ≡ get_or (part_of ps k) i 0
unfolding flat
part_at [] k i h = refl
part_at (p ∷ ps) zero i h = let e : 0 + i ≡ i = omega arith in rw e (get_or-append p (flat (λ l. l) ps) 0 i h)
part_at (p ∷ ps) (suc k) i h =
    let e : (length p + start_of ps k) + i ≡ length p + (start_of ps k + i) = omega arith in
    rw e (get_or-append-add p (flat (λ l. l) ps) (start_of ps k + i) 0 ∙ part_at ps k i h)

-- NAMES

-- the cell of name k
pub name_at : (n k : ℕ) (f : ℕ → ℕ) → OneTo n k → get_or (list_to n f) (k - 1) 0 ≡ f k
name_at n zero f h = absurd (omega arith)
name_at n (suc k) f h = let e : suc k - 1 ≡ k = omega arith in rw e (list_at n k f 0 h.to)

module _ (c : ℕ) (f : ℕ → List ℕ) (h : (j : ℕ) → length (f j) ≡ c) where
  pub flat_length : (n : ℕ) → length (flat_to n f) ≡ n * c
  unfolding flat_to
  flat_length zero = omega arith
  flat_length (suc n) = rw (length-append, flat_length n, h (suc n)) (omega arith)

  -- cell i of what name k gives, where each name gives c cells
  pub flat_at : (n k i : ℕ) → 0 < k → k ≤ n → i < c → get_or (flat_to n f) ((k - 1) * c + i) 0 ≡ get_or (f k) i 0
  unfolding flat_to
  flat_at zero k i g l b = absurd (omega arith)
  flat_at (suc n) k i g l b =
      let z = flat_length n in
      let ih = flat_at n k i g in
      ⊎_elim
      (λ e. let u : k - 1 ≡ n = omega arith in let q : (k - 1) * c + i ≡ length (flat_to n f) + i = rw (u, z) in
      rw q (get_or-append-add (flat_to n f) (f (suc n)) i 0 ∙ ap (λ (x : ℕ). get_or (f x) i 0) (sym e)))
      (λ (m : k < suc n).
      let t : suc (k - 1) * c ≤ n * c = mul-le-mul_right c (omega arith) in
      get_or-append (flat_to n f) (f (suc n)) 0 ((k - 1) * c + i) (rw z (omega arith)) ∙ ih (le_of_suc-le-suc m) b)
      (eq-or-lt_of_le l)
