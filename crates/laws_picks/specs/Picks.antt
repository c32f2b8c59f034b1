-- Of the numbers from 1 to n that pass a test: the lowest, and the topmost by a measure.
use Rattle.std.specs.Prelude.{ℕ, zero, suc, Bool, true, false, ◌&&◌, ◌||◌, not, leb}
use Rattle.laws.specs.Choice.{when}
use Rattle.laws.specs.Range.{any_to, all_to, highest}

-- the least k from 1 to n that passes, 0 where none does
unfoldable pub lowest : ℕ → (ℕ → Bool) → ℕ
lowest zero f = 0
lowest (suc n) f = elim (any_to n f) [ true ↦ lowest n f | false ↦ when (f (suc n)) (suc n) ]

-- k passes, and no other that passes has a greater p
abbrev pub is_top : ℕ → (ℕ → Bool) → (ℕ → ℕ) → ℕ → Bool
is_top n f p k = f k && all_to n (λ j. not (f j) || leb (p j) (p k))

-- of those k from 1 to n that pass, the one with the greatest p (of several the highest k), 0 where none passes
unfoldable pub top_of : ℕ → (ℕ → Bool) → (ℕ → ℕ) → ℕ
top_of n f p = highest n (is_top n f p)
