-- Laws of numbers with a bound, as code chooses, adds and multiplies them, and of the number of an owner.
use Rattle.std.specs.Prelude.{ℕ, zero, suc, ◌+◌, ◌*◌, ◌≡◌, refl, Bool, true, false, ◌&&◌, not, eqb}
use Rattle.std.proofs.Common.{◌∙◌, mul-le-mul, arith}
use Rattle.std.proofs.Math.Dec.{eqb-suc-zero}
use Rattle.laws.specs.Choice.{when}
use Rattle.laws.specs.Rows.{Is}
use Rattle.plan.specs.Lookup.{is_global, is_local_to}
use Rattle.plan_tables.specs.Layout.{owner_of}

-- CHOICES, where b is the flag of the test
pub is_in : {b q : Bool} {x y k : ℕ} → b ≡ q → b ≡ true → Is x y k → Is x (when q y) k
unfolding when
is_in e t h = rw (← e, t) h

pub is_out : {b q : Bool} (y k : ℕ) → b ≡ q → b ≡ false → Is 0 (when q y) k
unfolding when
is_out y k e t = rw (← e, t) (record { is = refl; small = omega arith })

-- x is y, which is z
pub is_then : {x y z k : ℕ} → Is x y k → y ≡ z → Is x z k
is_then h e = record { is = h.is ∙ e; small = h.small }

pub is_sum : {x y a b k l : ℕ} → Is x a k → Is y b l → Is (x + y) (a + b) (k + l)
is_sum h g = record { is = omega arith; small = omega arith }

pub is_times : {x y a b k l : ℕ} → Is x a k → Is y b l → Is (x * y) (a * b) (k * l)
is_times h g = record { is = rw (h.is, g.is); small = mul-le-mul h.small g.small }

-- THE OWNER OF A MUTEX, by its number
owned_global : (c : ℕ) → eqb c 0 ≡ is_global (owner_of c)
owned_global zero = refl
owned_global (suc c) = eqb-suc-zero c

owned_local : (v c : ℕ) → (not (eqb c 0) && eqb c v) ≡ is_local_to v (owner_of c)
owned_local v zero = refl
owned_local v (suc c) = rw (eqb-suc-zero c)

-- the number was read into x
pub owner_global : {x c : ℕ} → x ≡ c → eqb x 0 ≡ is_global (owner_of c)
owner_global {c} e = rw e (owned_global c)

pub owner_local : (v : ℕ) {x c : ℕ} → x ≡ c → (not (eqb x 0) && eqb x v) ≡ is_local_to v (owner_of c)
owner_local v {c} e = rw e (owned_local v c)
