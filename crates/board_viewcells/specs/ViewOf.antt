-- The view of a plan: what the board asks of it, in the order in which the board reads it.
use Rattle.std.specs.Prelude.{ℕ, Bool, List, [], ◌∷◌}
use Rattle.std.specs.Prelude.{if◌then◌else◌}
use Rattle.laws.specs.Choice.{when}
use Rattle.laws.specs.Sums.{flat}
use Rattle.laws.specs.Range.{highest, list_to, flat_to}
use Rattle.plan.specs.Limits.{max_v, max_m, most_n}
use Rattle.plan.specs.Lookup.{global, local_to}
use Rattle.figures.specs.System.{System}
use Rattle.figures.specs.Figures.{vcpu_at, overrun_of, ceiling}
use Rattle.figures.specs.Named.{has_task}
use Rattle.board_rules.specs.Facts.{lists}
use Rattle.board_rules.specs.View.{global_owner}

-- 1 where the test holds, else 0
abbrev pub bit : Bool → ℕ
bit t = when t 1

-- the owner of mutex m: 0 where the plan lacks it, v where it is local to v, 17 where it is global
unfoldable pub owner_of : System → ℕ → ℕ
owner_of s m = if global s.mutexes m then global_owner else highest max_v (λ v. local_to s.mutexes v m)

unfoldable pub budgets : System → List ℕ
budgets s = list_to max_v (λ v. (vcpu_at s v).budget)

unfoldable pub overruns : System → List ℕ
overruns s = list_to max_v (λ v. overrun_of s v)

unfoldable pub owners : System → List ℕ
owners s = list_to max_m (λ m. owner_of s m)

unfoldable pub ceilings : System → List ℕ
ceilings s = list_to max_m (λ m. ceiling s m)

-- for each seat, the plan has the task
unfoldable pub tasks : System → List ℕ
tasks s = flat_to max_v (λ v. list_to most_n (λ n. bit (has_task s v n)))

-- for each seat and m, the task's sheet locks m
unfoldable pub sheets : System → List ℕ
sheets s = flat_to max_v (λ v. flat_to most_n (λ n. list_to max_m (λ m. bit (lists s v n m))))

abbrev pub parts : System → List (List ℕ)
parts s = budgets s ∷ overruns s ∷ owners s ∷ ceilings s ∷ tasks s ∷ sheets s ∷ []

-- one part after the other
unfoldable pub view_of : System → List ℕ
view_of s = flat (λ l. l) (parts s)
