-- Laws of rows that rise by a number of theirs.
use Rattle.std.specs.Prelude.{ℕ, ◌+◌, ◌≤◌, ◌<◌, List, [], ◌∷◌, length}
use Rattle.std.proofs.Common.{arith}
use Rattle.laws.specs.Sums.{Each, Chain}
use Rattle.laws.specs.SumLaws.{each_map}

-- rows that stand in R stand in S
pub chain_map :
    {A : Type 0} (R S : A → A → Type 0) (P : A → Type 0) (xs : List A) → ((x y : A) → P x → P y → R x y → S x y) → Each P xs → Chain R xs → Chain S xs
chain_map R S P [] w e h = tt
chain_map R S P (x ∷ []) w e h = tt
chain_map R S P (x ∷ y ∷ xs) w e h = (w x y e.0 e.1.0 h.0, chain_map R S P (y ∷ xs) w e.1 h.1)

module _ {A : Type 0} (f : A → ℕ) where
  rising_room : (b : ℕ) (x : A) (xs : List A) → Chain (λ r s. f r < f s) (x ∷ xs) → Each (λ y. f y ≤ b) (x ∷ xs) → f x + length xs ≤ b
  rising_room b x [] h e = omega (arith, e.0)
  rising_room b x (y ∷ xs) h e = omega (arith, h.0, rising_room b y xs h.1 e.1)

  -- rows that rise from 1 to b at most are at most b
  pub rising_few : (b : ℕ) (xs : List A) → Chain (λ r s. f r < f s) xs → Each (λ y. (1 ≤ f y) × (f y ≤ b)) xs → length xs ≤ b
  rising_few b [] h e = omega arith
  rising_few b (x ∷ xs) h e = omega (arith, e.0, rising_room b x xs h (each_map (x ∷ xs) (λ y r. r.1) e))
