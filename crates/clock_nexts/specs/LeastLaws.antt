-- Laws of the least multiple that is not below a tick.
use Rattle.std.specs.Prelude.{ℕ, ◌+◌, ◌*◌, ◌/◌, ◌%◌, ◌<◌, ◌≤◌, ◌≡◌, refl, Bool, true, false, ◌&&◌, eqb, ltb}
use Rattle.std.proofs.Common.{sym, ap, ◌∙◌, ⊎_elim, div-add-mod', mul-le-mul_right, eq-zero-or-pos, arith, eqb-true, eq-eqb, ne_eqb, ltb-true, ltb-false}
use Rattle.std.proofs.Math.Nat.{mul-mod_left}
use Rattle.std.proofs.Math.Decide.{dec_le}
use Rattle.std.proofs.lemmas.Bool.{eqb-false}
use Rattle.std.specs.Prelude.{if◌then◌else◌}
use Rattle.laws.specs.BoolLaws.{both_ways}
use Rattle.plan.specs.Limits.{max_period}
use Rattle.clock_rules.specs.Clock.{recurs}
use Rattle.clock_nexts.specs.Nexts.{Least, Coming, never, renewed}

-- of two multiples that are less than p apart the greater is not above the other
close : (p a b : ℕ) → b * p < a * p + p → b ≤ a
close p a b h = at_test (dec_le b a)
  where
    at_test : Dec (b ≤ a) → b ≤ a
    at_test (yes l) = l
    at_test (no l) = absurd (let m : (a + 1) * p ≤ b * p = mul-le-mul_right p (omega arith) in omega arith)

-- a period recurs at t just where its least multiple from t on is t
least_recurs : (p t y : ℕ) → Least p t y → recurs t p ≡ eqb y t
least_recurs p t y h = both_ways (recurs t p) (eqb y t) to from
  where
    to : recurs t p ≡ true → eqb y t ≡ true
    to e =
        let z = eqb-true (t % p) 0 e in
        let d = div-add-mod' t p in
        let i = h.is in
        let n = h.near in
        let a = close p (t / p) h.times (omega arith) in
        let m : h.times * p ≤ t / p * p = mul-le-mul_right p a in
        eq-eqb y t (let f = h.from in omega arith)

    from : eqb y t ≡ true → recurs t p ≡ true
    from e = eq-eqb (t % p) 0 (ap (λ u. u % p) (sym (eqb-true y t e) ∙ h.is) ∙ mul-mod_left h.times p)

-- where it is not t, it is the least from the next tick on too
least_later : (p t y : ℕ) → Least p t y → (y ≡ t → ⊥) → Least p (t + 1) y
least_later p t y h ne = record { times = h.times; is = h.is; from = let f = h.from in omega arith; near = let n = h.near in omega arith }

-- where it is t, the next is a period later
least_again : (p t y : ℕ) → Least p t y → y ≡ t → 0 < p → Least p (t + 1) (t + p)
least_again p t y h e g = record { times = h.times + 1; is = let i = h.is in omega arith; from = omega arith; near = omega arith }

-- at first every period recurs
pub least_first : (p : ℕ) → 0 < p → Least p 0 0
least_first p g = record { times = 0; is = omega arith; from = omega arith; near = omega arith }

-- when tick t is over
least_renewed : (p t y : ℕ) → Least p t y → 0 < p → Least p (t + 1) (renewed p y t)
least_renewed p t y h g = go (eqb y t) refl
  where
    go : (b : Bool) → eqb y t ≡ b → Least p (t + 1) (if b then t + p else y)
    go true e = least_again p t y h (eqb-true y t e) g
    go false e = least_later p t y h (eqb-false y t e)

-- ONE THAT MAY HAVE NO PERIOD
module _ {p t y : ℕ} (h : Coming p t y) where
  -- its next is not before t
  pub coming_from : t ≤ never → t ≤ y
  coming_from l = ⊎_elim (λ z. let e = h.none z in omega arith) (λ g. (h.least g).from) (eq-zero-or-pos p)

  -- the same cell is its next from u on
  pub coming_later : (u : ℕ) → t ≤ u → u ≤ y → Coming p u y
  coming_later u a b = record {
    least = λ g. let z = h.least g in record { times = z.times; is = z.is; from = b; near = let n = z.near in omega arith };
    none = h.none;
    small = h.small;
  }

  -- when tick t is over
  pub coming_renewed : p ≤ max_period → t ≤ 1000000 → Coming p (t + 1) (renewed p y t)
  coming_renewed a b = record {
    least = λ g. least_renewed p t y (h.least g) g;
    none = λ z. let e = h.none z in rw (ne_eqb y t (λ q. omega arith)) e;
    small = small (eqb y t);
  }
    where
      small : (s : Bool) → (if s then t + p else y) ≤ never
      small true = omega arith
      small false = h.small

  -- it recurs at t just where its next is t
  pub due_test : t < never → (ltb 0 p && recurs t p) ≡ eqb y t
  due_test l = go (ltb 0 p) refl
    where
      go : (b : Bool) → ltb 0 p ≡ b → (b && recurs t p) ≡ eqb y t
      go true e = least_recurs p t y (h.least (ltb-true 0 p e))
      go false e =
          let z = ltb-false 0 p e in
          let n = h.none (omega arith) in
          sym (ne_eqb y t (λ q. omega arith))
