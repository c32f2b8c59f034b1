-- The rows of a table as a list, and the invariants of a loop over them.
use Rattle.std.specs.Prelude.{ℕ, zero, suc, ◌+◌, ◌*◌, ◌≤◌, min, ◌≡◌, Bool, true, false, List, [], ◌∷◌, ◌++◌}
use Rattle.laws.specs.Sums.{sum, greatest, any, all}

-- row 0, .., row (n - 1)
unfoldable pub rows : {A : Type 0} → ℕ → (ℕ → A) → List A
rows zero row = []
rows (suc n) row = rows n row ++ (row n ∷ [])

-- r is x, and at most b
pub record Is (r x b : ℕ) : Type 0 where
  pub is : r ≡ x
  pub small : r ≤ b

-- s is the sum of f over the first i of n rows, each at most b
pub record Summed {A : Type 0} (f : A → ℕ) (row : ℕ → A) (b n s i : ℕ) : Type 0 where
  pub within : i ≤ n
  pub is : s ≡ sum f (rows i row)
  pub small : s ≤ i * b

-- s is base and the sum of f over the first i of n rows, cut off at c
pub record Capped {A : Type 0} (f : A → ℕ) (row : ℕ → A) (base c n s i : ℕ) : Type 0 where
  pub within : i ≤ n
  pub is : s ≡ min (base + sum f (rows i row)) c

-- s is the greatest f over the first i of n rows, each at most b
pub record Greatest {A : Type 0} (f : A → ℕ) (row : ℕ → A) (b n s i : ℕ) : Type 0 where
  pub within : i ≤ n
  pub is : s ≡ greatest f (rows i row)
  pub small : s ≤ b

-- none of the first i of n rows passes the test
pub record Lacking {A : Type 0} (q : A → Bool) (row : ℕ → A) (n i : ℕ) : Type 0 where
  pub within : i ≤ n
  pub is : any q (rows i row) ≡ false

-- each of the first i of n rows passes the test
pub record Passed {A : Type 0} (q : A → Bool) (row : ℕ → A) (n i : ℕ) : Type 0 where
  pub within : i ≤ n
  pub is : all q (rows i row) ≡ true
