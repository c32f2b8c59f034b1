-- Laws of look-ups that are 0 out of range, and of the seats of a VCPU.
use Rattle.std.specs.Prelude.{ℕ, ◌≤◌, ◌≡◌, refl, Bool, true, false, ◌&&◌, not, List, eqb, length, get_or}
use Rattle.std.proofs.Common.{sym, ap, ◌∙◌, arith, ne_eqb}
use Rattle.std.proofs.Math.ListN.{get_or-eq_default}
use Rattle.laws.specs.Choice.{when}
use Rattle.laws.specs.BoolLaws.{both_left, both_right}
use Rattle.plan.proofs.RuleLaws.{in_range_law}
use Rattle.board_seats.specs.Seats.{is_v, is_n, is_local, wait_at, local_waiter}

-- a look-up in range, and out of range: t is the test's flag
pub when_yes : {t c : Bool} {x r : ℕ} → t ≡ c → t ≡ true → r ≡ x → r ≡ when c x
unfolding when
when_yes e p q = rw (sym e ∙ p, q)

pub when_no : {t c : Bool} (x : ℕ) → t ≡ c → t ≡ false → 0 ≡ when c x
unfolding when
when_no x e p = rw (sym e ∙ p)

-- a test that 0 fails
pub when_test : (f : ℕ → Bool) (c : Bool) (x : ℕ) → f 0 ≡ false → f (when c x) ≡ (c && f x)
unfolding when
when_test f true x e = refl
when_test f false x e = e

-- past the end of a list of n stands nothing
pub past : {A : Type 0} (d : A) (xs : List A) (i n : ℕ) → length xs ≡ n → n ≤ i → d ≡ get_or xs i d
past d xs i n e l = sym (get_or-eq_default xs d {n = i} (rw e l))

pub record Ranges (v n : ℕ) : Type 0 where
  pub low_v : 1 ≤ v
  pub high_v : v ≤ 16
  pub low_n : 1 ≤ n
  pub high_n : n ≤ 8

pub ranges : (v n : ℕ) → (is_v v && is_n n) ≡ true → Ranges v n
ranges v n e =
    let a = in_range_law v 1 16 (both_left (is_v v) (is_n n) e) in
    let b = in_range_law n 1 8 (both_right (is_v v) (is_n n) e) in
    record { low_v = a.0; high_v = a.1; low_n = b.0; high_n = b.1 }

-- the owner of a local mutex is a VCPU's name, so not 0
pub local_test : (v : ℕ) (c : Bool) (x : ℕ) → (is_v v && eqb (when c x) v) ≡ ((is_v v && c) && eqb x v)
local_test v c x = go (is_v v) refl
  where
    go : (t : Bool) → is_v v ≡ t → (t && eqb (when c x) v) ≡ ((t && c) && eqb x v)
    go true e = when_test (λ y. eqb y v) c x (ne_eqb 0 v (λ z. let h = in_range_law v 1 16 e in omega arith))
    go false e = refl

-- a task that waits for nothing is no local waiter; of another one its mutex decides
module _ (t ws : List ℕ) (v n : ℕ) where
  pub waits_not : wait_at ws v n ≡ 0 → false ≡ local_waiter t ws v n
  waits_not e = ap (λ w. not (eqb w 0) && is_local t v w) (sym e)

  pub waits_local : {w : ℕ} {r : Bool} → w ≡ wait_at ws v n → eqb w 0 ≡ false → r ≡ is_local t v w → r ≡ local_waiter t ws v n
  waits_local {w} e z q = q ∙ ap (λ b. not b && is_local t v w) (sym z) ∙ ap (λ x. not (eqb x 0) && is_local t v x) e
