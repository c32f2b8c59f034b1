-- A set of the names from 1 on, as the bits of a number: bit v - 1 says whether v is in it. Sets of VCPUs are below 65536, sets of tasks below 256.
use Rattle.std.specs.Prelude.{ℕ, ◌-◌, ◌/◌, ◌%◌, ◌^◌, ◌<◌, ◌≤◌, ◌≡◌, Bool, not, ◌&&◌, ◌||◌, eqb}
use Rattle.laws.specs.Range.{highest}

-- v is in the set s
unfoldable pub in_set : ℕ → ℕ → Bool
in_set s v = eqb ((s / 2 ^ (v - 1)) % 2) 1

-- s has no name above n
abbrev pub SetTo : ℕ → ℕ → Type 0
SetTo n s = s < 2 ^ n

-- r is s with v
pub record With (s v r : ℕ) : Type 0 where
  pub names : (w : ℕ) → 0 < w → w ≤ 16 → in_set r w ≡ (in_set s w || eqb w v)
  pub wide : r < 65536
  pub narrow : s < 256 → v ≤ 8 → r < 256

-- r is s without v
pub record Without (s v r : ℕ) : Type 0 where
  pub names : (w : ℕ) → 0 < w → w ≤ 16 → in_set r w ≡ (in_set s w && not (eqb w v))
  pub within : r ≤ s

-- r has what both a and b have
pub record Meet (a b r : ℕ) : Type 0 where
  pub names : (w : ℕ) → 0 < w → w ≤ 16 → in_set r w ≡ (in_set a w && in_set b w)
  pub within : r ≤ a

-- r has what a or b has
pub record Join (a b r : ℕ) : Type 0 where
  pub names : (w : ℕ) → 0 < w → w ≤ 16 → in_set r w ≡ (in_set a w || in_set b w)
  pub wide : r < 65536
  pub narrow : a < 256 → b < 256 → r < 256

-- r has what a has and b has not
pub record Less (a b r : ℕ) : Type 0 where
  pub names : (w : ℕ) → 0 < w → w ≤ 16 → in_set r w ≡ (in_set a w && not (in_set b w))
  pub within : r ≤ a

-- r is the greatest name in s, 0 where s is empty
pub record Highest (s r : ℕ) : Type 0 where
  pub is : r ≡ highest 16 (in_set s)
  pub wide : r ≤ 16
  pub narrow_is : s < 256 → r ≡ highest 8 (in_set s)
  pub narrow : s < 256 → r ≤ 8
