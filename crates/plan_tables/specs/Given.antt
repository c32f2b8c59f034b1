-- Tables that an accepted plan gives, the plan in them, and the test for 9.
use Rattle.std.specs.Prelude.{ℕ, ◌+◌, ◌-◌, ◌*◌, ◌≡◌, List, [], ◌∷◌, Bool, true, false, ◌&&◌, eqb, leb, length, is_ok}
use Rattle.std.specs.Prelude.{if◌then◌else◌}
use Rattle.laws.specs.Sums.{first, all}
use Rattle.laws.specs.Rows.{rows}
use Rattle.plan.specs.Line.{Item}
use Rattle.plan.specs.Plan.{Vcpu, Task, Section, Plan}
use Rattle.plan.specs.Valid.{Valid}
use Rattle.plan.specs.Text.{items_of}
use Rattle.plan.specs.Rules.{start, vcpu_of}
use Rattle.plan.specs.Reading.{Judge, fault, rules}
use Rattle.plan_tables.specs.Layout.{PlanRecord, Tables, vcpu_width, mutex_width, open_width, task_width, lock_width, first_lock, cell, vcpu_row, mutex_row, open_row, task_row, filled, record_of}

-- a plan gives these tables with this record
pub record Gives (p : Plan) (r : PlanRecord) (t : Tables) : Type 0 where
  pub recorded : r ≡ record_of p
  pub held : t ≡ filled p t

-- some accepted plan gives them
abbrev pub Given : PlanRecord → Tables → Type 0
Given r t = (p : Plan) × Valid p × Gives p r t

-- THE PLAN IN TABLES. A section is a stretch of tasks whose VCPUs have one guest
unfoldable pub guest_for : List Vcpu → ℕ → ℕ
guest_for vs v = (first (λ x. eqb x.v v) (vcpu_of []) vs).guest

abbrev pub atop : ℕ → Task → List Section → List Section
atop g k [] = record { guest = g; tasks = k ∷ [] } ∷ []
atop g k (s ∷ ss) =
    if eqb s.guest g then record { guest = g; tasks = k ∷ s.tasks } ∷ ss else record { guest = g; tasks = k ∷ [] } ∷ s ∷ ss

unfoldable pub sections_of : List Vcpu → List Task → List Section
sections_of vs [] = []
sections_of vs (k ∷ ks) = atop (guest_for vs k.v) k (sections_of vs ks)

unfoldable pub plan_in : PlanRecord → Tables → Plan
plan_in r t =
    record {
      policy = r.policy;
      overrun = r.overrun;
      vcpus = rows r.vcpus (vcpu_row t.vcpus);
      mutexes = rows r.mutexes (mutex_row t.mutexes);
      opens = rows r.opens (open_row t.opens);
      sections = sections_of (rows r.vcpus (vcpu_row t.vcpus)) (rows r.tasks (task_row t.tasks));
    }

-- ROOM: as many rows as the record counts are within tables of these lengths, and within these tables
unfoldable pub roomy_by : PlanRecord → ℕ → ℕ → ℕ → ℕ → Bool
roomy_by r v m o k =
    leb (r.vcpus * vcpu_width) v && (leb (r.mutexes * mutex_width) m && (leb (r.opens * open_width) o && leb (r.tasks * task_width) k))

abbrev pub roomy : PlanRecord → Tables → Bool
roomy r t = roomy_by r (length t.vcpus) (length t.mutexes) (length t.opens) (length t.tasks)

-- THE TEST FOR 9: there is room, the places of locks that a task does not have are zero, no row has a fault after those before it, and a plan may end
-- after the last (so it has a VCPU and a task)

-- the cells of task i from place c on are zero
unfoldable pub zero_from : List ℕ → ℕ → ℕ → Bool
zero_from t i c = all (λ x. eqb x 0) (rows (task_width - c) (λ j. cell t task_width i (c + j)))

unfoldable pub zero_rest : List ℕ → ℕ → Bool
zero_rest t i = zero_from t i (first_lock + cell t task_width i 4 * lock_width)

module _ (J : Judge) where
  -- no item has a fault after those before it, and the plan may stop after them
  unfoldable pub clean : J.Seen → List Item → Bool
  clean t [] = J.ready t
  clean t (i ∷ is) = is_ok (fault J t i) && clean (J.next t i) is

unfoldable pub is_given : PlanRecord → Tables → Bool
is_given r t = roomy r t && (all (λ i. zero_rest t.tasks i) (rows r.tasks (λ i. i)) && clean rules start (items_of (plan_in r t)))

-- "Calls on tables or a board test 9 first": what f says of the plan in the tables, or `other`, where no accepted plan gives them: the answer that says 9, or what was lent
abbrev pub if_given : {A : Type 0} → PlanRecord → Tables → (Plan → A) → A → A
if_given r t f other = elim (is_given r t) [ true ↦ f (plan_in r t) | false ↦ other ]
