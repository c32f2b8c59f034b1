-- The rows of a search: what comes in a window, a row for each thing that comes; and the table that holds them.
use Rattle.std.specs.Prelude.{ℕ, ◌+◌, ◌*◌, ◌≤◌, min, ◌≡◌, Bool, true, false, List, [], ◌∷◌, ◌++◌, get_or, set}
use Rattle.std.proofs.Common.{arith}
use Rattle.laws.specs.Sums.{up, sum, flat}
use Rattle.laws.specs.SumLaws.{rise}
use Rattle.laws.specs.Rows.{rows}
use Rattle.search.specs.Search.{Demand}

-- one more than any limit: a demand that reaches it is above every limit
abbrev pub cap : ℕ
cap = 1_000_001

-- r is x, or both reach c; and at most b
pub record IsUpTo (c r x b : ℕ) : Type 0 where
  pub is : min r c ≡ min x c
  pub small : r ≤ b

-- a cost for each period of a window, which is longer by the shift
pub record Row : Type 0 where
  pub shift : ℕ
  pub period : ℕ
  pub cost : ℕ

-- what a row asks for in a window t
unfoldable pub share : ℕ → Row → ℕ
share t r = up (t + r.shift) r.period * r.cost

-- the demand of the rows over a base
unfoldable pub rows_demand : ℕ → List Row → ℕ → ℕ
rows_demand base rs t = base + sum (share t) rs

pub rows_demand_law : {s base : ℕ} (rs : List Row) → s ≤ base → Demand (rows_demand base rs) s
unfolding rows_demand share
rows_demand_law rs h = record { rises = λ t u l. search rise depth 9; above = λ t. omega arith }

-- the rows that the code takes: the period is not 0, and a window with the shift fits
pub record Sound (r : Row) : Type 0 where
  pub often : 1 ≤ r.period
  pub near : r.shift ≤ 1_000_000_000_000

-- THE TABLE: row k is at 3k

unfoldable pub row_in : List ℕ → ℕ → Row
row_in xs k = record { shift = get_or xs (k * 3) 0; period = get_or xs (k * 3 + 1) 0; cost = get_or xs (k * 3 + 2) 0 }

-- its first n rows
abbrev pub rows_in : List ℕ → ℕ → List Row
rows_in xs n = rows n (row_in xs)

-- the table with r as its row n
unfoldable pub pushed : List ℕ → ℕ → Row → List ℕ
pushed xs n r = set (set (set xs (n * 3) r.shift) (n * 3 + 1) r.period) (n * 3 + 2) r.cost

-- BUILDERS

-- the row of x where it passes, else none
unfoldable pub pick : {A : Type 0} → (A → Bool) → (A → Row) → A → List Row
pick test f x = elim (test x) [ true ↦ f x ∷ [] | false ↦ [] ]

-- the table's k rows are those that stood there, m at most, and those that the first i of n things give, w at most for each
pub record Built {A : Type 0} (g : A → List Row) (thing : ℕ → A) (stood : List Row) (m w n : ℕ) (xs : List ℕ) (k i : ℕ) : Type 0 where
  pub within : i ≤ n
  pub few : k ≤ m + i * w
  pub is : rows_in xs k ≡ stood ++ flat g (rows i thing)

-- the same, where each thing that passes gives a row
pub record Picked {A : Type 0} (test : A → Bool) (f : A → Row) (thing : ℕ → A) (stood : List Row) (m n : ℕ) (xs : List ℕ) (k i : ℕ) : Type 0 where
  pub built : Built (pick test f) thing stood m 1 n xs k i
