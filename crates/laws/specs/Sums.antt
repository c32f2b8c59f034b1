-- Rounding up; sums, maxima and tests over the rows of a list.
use Rattle.std.specs.Prelude.{ℕ, ◌+◌, ◌-◌, ◌/◌, max, Bool, true, false, ◌&&◌, ◌||◌}
use mathlib.Core.List.{List, [], ◌∷◌, ◌++◌, Memᴰ}

-- t / p, rounded up
unfoldable pub up : ℕ → ℕ → ℕ
up t p = (t + (p - 1)) / p

-- the sum of f over the rows
unfoldable pub sum : {A : Type 0} → (A → ℕ) → List A → ℕ
sum f [] = 0
sum f (x ∷ xs) = f x + sum f xs

-- the greatest f of a row, 0 where there is no row
unfoldable pub greatest : {A : Type 0} → (A → ℕ) → List A → ℕ
greatest f [] = 0
greatest f (x ∷ xs) = max (f x) (greatest f xs)

-- some row passes
unfoldable pub any : {A : Type 0} → (A → Bool) → List A → Bool
any f [] = false
any f (x ∷ xs) = f x || any f xs

-- every row passes
unfoldable pub all : {A : Type 0} → (A → Bool) → List A → Bool
all f [] = true
all f (x ∷ xs) = f x && all f xs

-- the first row that passes, d where none does
unfoldable pub first : {A : Type 0} → (A → Bool) → A → List A → A
first f d [] = d
first f d (x ∷ xs) = elim (f x) [ true ↦ x | false ↦ first f d xs ]

-- the rows that each row gives, one after the other
unfoldable pub flat : {A B : Type 0} → (A → List B) → List A → List B
flat f [] = []
flat f (x ∷ xs) = f x ++ flat f xs

-- the rows that pass
unfoldable pub only : {A : Type 0} → (A → Bool) → List A → List A
only f [] = []
only f (x ∷ xs) = elim (f x) [ true ↦ x ∷ only f xs | false ↦ only f xs ]

-- P holds of every row
abbrev pub Each : {A : Type 0} → (A → Type 0) → List A → Type 0
Each P [] = Unit {0}
Each P (x ∷ xs) = P x × Each P xs

-- every row stands in R to the next one
abbrev pub Chain : {A : Type 0} → (A → A → Type 0) → List A → Type 0
Chain R [] = Unit {0}
Chain R (x ∷ []) = Unit {0}
Chain R (x ∷ y ∷ xs) = R x y × Chain R (y ∷ xs)

-- every row stands in R to each that follows
abbrev pub Pairs : {A : Type 0} → (A → A → Type 0) → List A → Type 0
Pairs R [] = Unit {0}
Pairs R (x ∷ xs) = Each (R x) xs × Pairs R xs

-- there is a row
abbrev pub Some : {A : Type 0} → List A → Type 0
Some [] = ⊥
Some (x ∷ xs) = Unit {0}

-- P holds of some row
abbrev pub Has : {A : Type 0} → (A → Type 0) → List A → Type 0
Has {A} P xs = (x : A) × Memᴰ x xs × P x
