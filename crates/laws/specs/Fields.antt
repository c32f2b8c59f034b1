-- The fields of a line, one after the other, and the invariants of a loop over a list of bytes: what is left of it says the rest.
use Rattle.std.specs.Prelude.{ℕ, zero, suc, ◌+◌, ◌^◌, ◌≤◌, ◌<◌, ◌≡◌, List, [], ◌∷◌, cond, eqb, length, drop}
use Rattle.laws.specs.Decimal.{scan}

-- the bytes before the first b, all of them where there is none
unfoldable pub before : ℕ → List ℕ → List ℕ
before b [] = []
before b (x ∷ s) = cond (eqb x b) [] (x ∷ before b s)

-- those after it
unfoldable pub after : ℕ → List ℕ → List ℕ
after b [] = []
after b (x ∷ s) = cond (eqb x b) s (after b s)

-- how many b there are
unfoldable pub count : ℕ → List ℕ → ℕ
count b [] = 0
count b (x ∷ s) = cond (eqb x b) (suc (count b s)) (count b s)

-- the k-th field from 0, where b separates them; empty where there are fewer
unfoldable pub field : ℕ → ℕ → List ℕ → List ℕ
field b zero s = before b s
field b (suc k) s = field b k (after b s)

-- the first n + 1 fields
unfoldable pub fields_to : ℕ → ℕ → List ℕ → List (List ℕ)
fields_to b zero s = before b s ∷ []
fields_to b (suc n) s = before b s ∷ fields_to b n (after b s)

-- no b among the first i bytes
pub record Cut (b : ℕ) (s : List ℕ) (i : ℕ) : Type 0 where
  pub within : i ≤ length s
  pub is : length (before b s) ≡ i + length (before b (drop i s))

-- n of the first i bytes are b
pub record Tallied (b : ℕ) (s : List ℕ) (n i : ℕ) : Type 0 where
  pub within : i ≤ length s
  pub small : n ≤ i
  pub is : count b s ≡ n + count b (drop i s)

-- the first i bytes are digits that say v
pub record Scanned (bad : ℕ) (s : List ℕ) (v i : ℕ) : Type 0 where
  pub within : i ≤ length s
  pub small : v < 10 ^ i
  pub is : scan bad 0 s ≡ scan bad v (drop i s)
