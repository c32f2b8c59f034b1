-- Where lines stand in the listing: the tasks rise, they are the plan's and no others, and each wait's line has its lock's place, counted from 1.
use Prim.Native.Nat.{ℕ, ◌+◌}
use Rattle.std.specs.Prelude.{◌≡◌, ◌⊎◌}
use mathlib.Core.List.{List, [], ◌∷◌, ◌++◌}
use Rattle.plan.specs.Limits.{lf}

-- WHOLE LINES

-- nothing, or it ends in LF
abbrev pub Ended : List ℕ → Type 0
Ended xs = (xs ≡ []) ⊎ ((b : List ℕ) × (xs ≡ b ++ (lf ∷ [])))

-- TEXTS WITHIN TEXTS

-- these bytes stand in that text, whole lines before them
pub record Stands (l out : List ℕ) : Type 0 where
  pub before : List ℕ
  pub after : List ℕ
  pub is : out ≡ before ++ (l ++ after)
  pub whole : Ended before
