-- The field of a refused line is the leftmost whose own test fails with the lowest number.
use Rattle.std.specs.Prelude.{ℕ, ◌≡◌, List, [], ◌∷◌, ◌⊎◌, Some, None}
use Rattle.plan.specs.declared.Refusal.TheVariants.{Shape}
use Rattle.plan.specs.declared.Complaint.{Complaint}
use Rattle.plan.specs.Line.{Item, item_of}
use Rattle.plan.specs.Rules.{Known}
use Rattle.plan_fields.specs.Own.{own_tests, Decides}

-- what is told of a line before other pieces: a line of no kind is refused whole, and so is what follows the last LF
abbrev pub Told : Known → List ℕ → List (List ℕ) → Complaint → Type 0
Told t l [] c = (c.number ≡ Shape) × (c.field ≡ 0)
Told t l (m ∷ ls) c =
    ((item_of l ≡ None) × (c.number ≡ Shape) × (c.field ≡ 0)) ⊎ ((i : Item) × (item_of l ≡ Some i) × Decides c.number c.field (own_tests t l i))
