-- What a search is to answer, and the recurrence that finds it.
use Rattle.std.specs.Prelude.{ℕ, zero, suc, ◌+◌, ◌-◌, ◌≤◌, ◌<◌, ◌≡◌, true, false, ◌⊎◌, ltb, leb, eqb}
use Rattle.std.proofs.Math.Option.{Option, some, none}
pub use Rattle.search.specs.declared.Answer.{Answer}
pub use Rattle.search.specs.declared.Answer.TheVariants.{Fits, Late}

-- the recurrence: x₀ is the start, and each next one is the demand at the one before
abbrev pub iterate : (ℕ → ℕ) → ℕ → ℕ → ℕ
iterate d s zero = s
iterate d s (suc k) = d (iterate d s k)

-- after k evaluations it is over: it has passed the limit, or the last evaluation repeated the one before
abbrev pub Over : (ℕ → ℕ) → ℕ → ℕ → ℕ → Type 0
Over d s L zero = L < s
Over d s L (suc k) = (L < iterate d s (suc k)) ⊎ (iterate d s (suc k) ≡ iterate d s k)

-- n evaluations until it is over
pub record Rounds (d : ℕ → ℕ) (s L n : ℕ) : Type 0 where
  pub over : Over d s L n
  pub not_before : (k : ℕ) → k < n → ¬ Over d s L k

-- the smallest number from 0 to the limit whose demand is not above it, where there is one
abbrev pub Smallest : (ℕ → ℕ) → ℕ → Option ℕ → Type 0
Smallest d L (some w) = (w ≤ L) × (d w ≤ w) × ((v : ℕ) → v < w → v < d v)
Smallest d L none = (v : ℕ) → v ≤ L → v < d v

abbrev pub window : Answer → Option ℕ
window (Fits w n) = some w
window (Late n) = none

abbrev pub rounds : Answer → ℕ
rounds (Fits w n) = n
rounds (Late n) = n

-- the right answer to the search of the demand d from the start s up to the limit L
pub record Right (d : ℕ → ℕ) (s L : ℕ) (a : Answer) : Type 0 where
  pub smallest : Smallest d L (window a)
  pub counted : Rounds d s L (rounds a)

-- the recurrence as it is run: n evaluations so far, now at x, at most f evaluations to come
unfoldable pub recur : (ℕ → ℕ) → ℕ → ℕ → ℕ → ℕ → Answer
recur d L zero n x = Late n
recur d L (suc f) n x =
    elim (ltb L x) [
      | true ↦ Late n
      | false ↦ elim (eqb (d x) x) [ true ↦ Fits x (n + 1) | false ↦ recur d L f (n + 1) (d x) ]
    ]

-- from the start; more than L + 1 - s evaluations are never made
unfoldable pub solve : (ℕ → ℕ) → ℕ → ℕ → Answer
unfolding recur
solve d s L = recur d L (L + 1 - s) 0 s

-- what is asked of a demand: it does not fall as its window grows, and is never below the start
pub record Demand (d : ℕ → ℕ) (s : ℕ) : Type 0 where
  pub rises : (t u : ℕ) → t ≤ u → d t ≤ d u
  pub above : (t : ℕ) → s ≤ d t

-- the plain search: v, v + 1, v + 2, .. are tried, at most f of them
unfoldable pub try_from : (ℕ → ℕ) → ℕ → ℕ → Option ℕ
try_from d zero v = none
try_from d (suc f) v = elim (leb (d v) v) [ true ↦ some v | false ↦ try_from d f (v + 1) ]

-- of 0, 1, 2, .. up to the limit, the first whose demand is not above it
unfoldable pub plain : (ℕ → ℕ) → ℕ → Option ℕ
unfolding try_from
plain d L = try_from d (L + 1) 0
