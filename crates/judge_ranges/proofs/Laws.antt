-- The leftmost field out of its range, from its parts.
use Prim.Native.Nat.{ℕ}
use mathlib.Core.Path.{◌≡◌}
use mathlib.Core.Bool.{Bool, cond}

-- a field's test, and the fields right of it
pub out_told : (k : ℕ) {a b : Bool} {x y r : ℕ} → a ≡ b → x ≡ y → r ≡ cond a x k → r ≡ cond b y k
out_told k e h n = rw (n, h, e)
