-- A number field as code reads it: the digits with another value for a byte that is none.
use Rattle.std.specs.Prelude.{ℕ, ◌+◌, ◌*◌, ◌≤◌, ◌<◌, ◌^◌, ◌≡◌, refl, List, [], ◌∷◌, ◌⊎◌, Bool, true, false, cond, ltb, leb, length}
use Rattle.std.proofs.Common.{sym, inl, inr, arith, lt-ltb, le-ltb, leb-true}
use Rattle.std.proofs.Math.Nat.{pow-le-pow_right}
use Rattle.laws.specs.Decimal.{digit_of, scan, starts, value}
use Rattle.laws.proofs.DecimalLaws.{scan_room}
use Rattle.plan.specs.Limits.{max_digits}
use Rattle.plan.specs.Line.{bad, number_at}

-- digits say one value, whatever is said of a byte that is none
scan_either : (b c : ℕ) (s : List ℕ) (v : ℕ) → (scan b v s ≡ scan c v s) ⊎ ((scan b v s ≡ b) × (scan c v s ≡ c))
unfolding scan
scan_either b c [] v = inl refl
scan_either b c (x ∷ s) v = go (ltb (digit_of x) 10) (scan_either b c s (v * 10 + digit_of x))
  where
    d : ℕ
    d = v * 10 + digit_of x

    go :
        (t : Bool) → (scan b d s ≡ scan c d s) ⊎ ((scan b d s ≡ b) × (scan c d s ≡ c)) →
        (cond t (scan b d s) b ≡ cond t (scan c d s) c) ⊎ ((cond t (scan b d s) b ≡ b) × (cond t (scan c d s) c ≡ c))
    go true ih = ih
    go false ih = inr (refl, refl)

-- a field of at most 7 digits: its value, or what is said of one that is not written as it should be
scan_at : (k : ℕ) (s : List ℕ) → length s ≤ max_digits → cond (ltb (scan bad 0 s) bad) (scan bad 0 s) (bad + k) ≡ scan (bad + k) 0 s
scan_at k s l = go (scan_either bad (bad + k) s 0) (scan_room bad s 0 0 (omega arith)) (scan_room (bad + k) s 0 0 (omega arith))
  where
    low : 10 ^ (length s + 0) ≤ bad
    low = pow-le-pow_right (omega arith) {j = max_digits} (omega arith)

    good : scan bad 0 s < bad → scan bad 0 s ≡ scan (bad + k) 0 s → cond (ltb (scan bad 0 s) bad) (scan bad 0 s) (bad + k) ≡ scan (bad + k) 0 s
    good h e = rw (lt-ltb _ _ h) e

    ill : scan bad 0 s ≡ bad → scan (bad + k) 0 s ≡ bad + k → cond (ltb (scan bad 0 s) bad) (scan bad 0 s) (bad + k) ≡ scan (bad + k) 0 s
    ill h e = rw (le-ltb (scan bad 0 s) bad (omega arith)) (sym e)

    go :
        (scan bad 0 s ≡ scan (bad + k) 0 s) ⊎ ((scan bad 0 s ≡ bad) × (scan (bad + k) 0 s ≡ bad + k)) →
        (scan bad 0 s ≡ bad) ⊎ (scan bad 0 s < 10 ^ (length s + 0)) →
        (scan (bad + k) 0 s ≡ bad + k) ⊎ (scan (bad + k) 0 s < 10 ^ (length s + 0)) →
        cond (ltb (scan bad 0 s) bad) (scan bad 0 s) (bad + k) ≡ scan (bad + k) 0 s
    go (inr e) f g = ill e.0 e.1
    go (inl e) (inr f) g = good (omega (arith, low)) e
    go (inl e) (inl f) (inl g) = ill f g
    go (inl e) (inl f) (inr g) = absurd (omega (arith, low))

-- WHAT CODE READS of a number field
pub number_code : (k : ℕ) (s : List ℕ) → number_at k s ≡ cond (leb (length s) max_digits) (cond (starts s) (scan (bad + k) 0 s) (bad + k)) (bad + k)
unfolding number_at value
number_code k s = go (leb (length s) max_digits) refl (starts s)
  where
    go :
        (a : Bool) → leb (length s) max_digits ≡ a → (b : Bool) →
        cond (ltb (cond a (cond b (scan bad 0 s) bad) bad) bad) (cond a (cond b (scan bad 0 s) bad) bad) (bad + k) ≡ cond a (cond b (scan (bad + k) 0 s) (bad + k)) (bad + k)
    go true e true = scan_at k s (leb-true _ _ e)
    go true e false = refl
    go false e b = refl
