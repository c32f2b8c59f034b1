-- Cutting a list of bytes at each separator, and putting it together again.
use Rattle.std.specs.Prelude.{ℕ, List, [], ◌∷◌, ◌++◌, Bool, true, false, cond, ◌&&◌, eqb, ltb}

abbrev pub on_first : ℕ → List (List ℕ) → List (List ℕ)
on_first x [] = (x ∷ []) ∷ []
on_first x (l ∷ ls) = (x ∷ l) ∷ ls

-- a list of bytes split at each b: one piece more than there are b
unfoldable pub pieces : ℕ → List ℕ → List (List ℕ)
pieces b [] = [] ∷ []
pieces b (x ∷ s) = cond (eqb x b) ([] ∷ pieces b s) (on_first x (pieces b s))

-- pieces with a b between each two
unfoldable pub joined : ℕ → List (List ℕ) → List ℕ
joined b [] = []
joined b (l ∷ []) = l
joined b (l ∷ m ∷ ls) = l ++ (b ∷ joined b (m ∷ ls))

-- pieces with a b after each
unfoldable pub ended : ℕ → List (List ℕ) → List ℕ
ended b [] = []
ended b (l ∷ ls) = l ++ (b ∷ ended b ls)

-- every byte is above b
unfoldable pub above : ℕ → List ℕ → Bool
above b [] = true
above b (x ∷ s) = ltb b x && above b s

-- are two lists of bytes the same?
unfoldable pub same : List ℕ → List ℕ → Bool
same [] [] = true
same [] (y ∷ t) = false
same (x ∷ s) [] = false
same (x ∷ s) (y ∷ t) = eqb x y && same s t

abbrev pub is_nil : {A : Type 0} → List A → Bool
is_nil [] = true
is_nil (x ∷ xs) = false
