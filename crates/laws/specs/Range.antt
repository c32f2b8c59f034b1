-- The numbers from 1 to n, and tests over them.
use Rattle.std.specs.Prelude.{ℕ, zero, suc, ◌<◌, ◌≤◌, Bool, true, false, ◌&&◌, ◌||◌, List, [], ◌∷◌, ◌++◌}

-- k is one of them
pub record OneTo (n k : ℕ) : Type 0 where
  pub from : 0 < k
  pub to : k ≤ n

-- some k from 1 to n passes
unfoldable pub any_to : ℕ → (ℕ → Bool) → Bool
any_to zero f = false
any_to (suc n) f = f (suc n) || any_to n f

-- every k from 1 to n passes
unfoldable pub all_to : ℕ → (ℕ → Bool) → Bool
all_to zero f = true
all_to (suc n) f = f (suc n) && all_to n f

-- the greatest k from 1 to n that passes, 0 where none does
unfoldable pub highest : ℕ → (ℕ → Bool) → ℕ
highest zero f = 0
highest (suc n) f = elim (f (suc n)) [ true ↦ suc n | false ↦ highest n f ]

-- what each k from 1 to n gives, one after the other
unfoldable pub flat_to : {B : Type 0} → ℕ → (ℕ → List B) → List B
flat_to zero f = []
flat_to (suc n) f = flat_to n f ++ f (suc n)

-- f 1, f 2, .. to f n
unfoldable pub list_to : {B : Type 0} → ℕ → (ℕ → B) → List B
list_to zero f = []
list_to (suc n) f = list_to n f ++ (f (suc n) ∷ [])
