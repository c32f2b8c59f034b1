-- The fields of a line after its first, and a number or a word as a field.
use Rattle.std.specs.Prelude.{ℕ, List, [], ◌∷◌, ◌++◌, Bool}
use Rattle.std.specs.Prelude.{if◌then◌else◌}
use Rattle.laws.specs.Decimal.{decimal}
use Rattle.plan.specs.Limits.{tab, lf}

-- a field after a tab
abbrev pub tabbed : List ℕ → List ℕ
tabbed f = tab ∷ f

-- what follows a line's first field: each field after a tab, and LF
unfoldable pub rest : List (List ℕ) → List ℕ
rest [] = lf ∷ []
rest (f ∷ fs) = tabbed f ++ rest fs

-- a number, or the word that stands where it is lacking
abbrev pub number_or : Bool → ℕ → List ℕ → List ℕ
number_or b n w = if b then decimal n else w
