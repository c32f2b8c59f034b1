-- Supply, marks, faults and conditions of one VCPU, on a board's arrays: t is the view, ls the budgets left, os the overruns left, ss the stopped marks,
-- hs the holders, ws the waits.
use Rattle.std.specs.Prelude.{ℕ, ◌+◌, ◌-◌, List, Bool, true, false, ◌&&◌, ◌||◌, not, eqb, leb, get_or, Ok}
use Rattle.std.specs.Prelude.{if◌then◌else◌}
use Rattle.laws.specs.Range.{any_to}
use Rattle.plan.specs.Limits.{max_m, max_ticks}
use Rattle.plan.specs.declared.Policy.{Policy}
use Rattle.plan.specs.declared.Policy.TheVariants.{Periodic, Deferrable}
use Rattle.plan.specs.declared.OverrunChoice.{OverrunChoice}
use Rattle.plan.specs.declared.OverrunChoice.TheVariants.{WithOverrun, WithoutOverrun}
use Rattle.plan.specs.declared.Refusal.TheVariants.{Range, Unknown, Unlisted, Asleep, Busy, NotHolder, Supply}
use Rattle.plan.specs.Refusals.{unless, Fault}
use Rattle.plan.specs.Rules.{within}
use Rattle.board_seats.specs.Seats.{has_vcpu, budget_of, overrun_of, has_task, has_mutex, lists_it, holds_it, wait_at}
use Rattle.board_walks.specs.Walks.{holds_global}

-- the o of the supply
abbrev pub reserve : OverrunChoice → Bool → Bool → ℕ → ℕ
reserve WithOverrun held stopped o = if held && not stopped then o else 0
reserve WithoutOverrun held stopped o = 0

-- "Supply is b, plus o if policy O holds, the VCPU's tasks hold a global mutex and it is not stopped"
abbrev pub supply_at : OverrunChoice → List ℕ → List ℕ → List ℕ → List Bool → List ℕ → ℕ → ℕ
supply_at c t ls os ss hs v = get_or ls (v - 1) 0 + reserve c (holds_global t hs v) (get_or ss (v - 1) false) (get_or os (v - 1) 0)

-- marks are set under P only
abbrev pub under_p : Policy → Bool
under_p Periodic = true
under_p Deferrable = false

-- VCPU v stands at b = 0, with no global mutex held by its own tasks
abbrev pub idle : List ℕ → List ℕ → List ℕ → ℕ → Bool
idle t ls hs v = has_vcpu t v && (eqb (get_or ls (v - 1) 0) 0 && not (holds_global t hs v))

-- "Under P a VCPU that stands at b = 0 when an event is complete .., with no global mutex held by its own tasks, is marked stopped"
abbrev pub next_mark : Policy → List ℕ → List ℕ → List Bool → List ℕ → ℕ → Bool
next_mark p t ls ss hs v = get_or ss (v - 1) false || (under_p p && idle t ls hs v)

-- the mark of a VCPU of the plan, where h says whether its tasks hold a global mutex
abbrev pub mark_by : Policy → List ℕ → List Bool → ℕ → Bool → Bool
mark_by p ls ss v h = get_or ss (v - 1) false || (under_p p && (eqb (get_or ls (v - 1) 0) 0 && not h))

-- `use v t`: 10, 3, 12, 15; after 10, at the supply s
abbrev pub tick_fault : ℕ → ℕ → Fault
tick_fault s x = unless (within x 1 max_ticks) Range (unless (not (eqb s 0)) Asleep (unless (leb x s) Supply (Ok tt)))

abbrev pub use_fault_at : OverrunChoice → List ℕ → List ℕ → List ℕ → List Bool → List ℕ → ℕ → ℕ → Fault
use_fault_at c t ls os ss hs v x = unless (has_vcpu t v) Unknown (tick_fault (supply_at c t ls os ss hs v) x)

-- "Takes b first, then o"
abbrev pub budget_after : List ℕ → ℕ → ℕ → ℕ
budget_after ls v x = get_or ls (v - 1) 0 - x

abbrev pub overrun_after : List ℕ → List ℕ → ℕ → ℕ → ℕ
overrun_after ls os v x = get_or os (v - 1) 0 - (x - get_or ls (v - 1) 0)

-- the task (v, n) and the mutex m are in the plan, else 10
abbrev pub known : List ℕ → ℕ → ℕ → ℕ → Bool
known t v n m = has_task t v n && has_mutex t m

-- "the task already holds or waits"
abbrev pub busy_at : List ℕ → List ℕ → ℕ → ℕ → Bool
busy_at hs ws v n = not (eqb (wait_at ws v n) 0) || any_to max_m (λ m. holds_it hs v n m)

-- `ask v n m`: 10, 11, 12, 13 in turn; after 10, at the supply s
abbrev pub task_fault : ℕ → List ℕ → List ℕ → List ℕ → ℕ → ℕ → ℕ → Fault
task_fault s t hs ws v n m =
    unless (lists_it t v n m) Unlisted (unless (not (eqb s 0)) Asleep (unless (not (busy_at hs ws v n)) Busy (Ok tt)))

abbrev pub ask_fault_at : OverrunChoice → List ℕ → List ℕ → List ℕ → List Bool → List ℕ → List ℕ → ℕ → ℕ → ℕ → Fault
ask_fault_at c t ls os ss hs ws v n m = unless (known t v n m) Unknown (task_fault (supply_at c t ls os ss hs v) t hs ws v n m)

-- `free v n m`: 10, 14
abbrev pub free_fault_at : List ℕ → List ℕ → ℕ → ℕ → ℕ → Fault
free_fault_at t hs v n m = unless (known t v n m) Unknown (unless (holds_it hs v n m) NotHolder (Ok tt))

-- "b in 0..budget, o in 0..O, o below O only with b = 0"
abbrev pub figures_good : ℕ → ℕ → ℕ → ℕ → Bool
figures_good budget overrun l o = leb l budget && (leb o overrun && (eqb o overrun || eqb l 0))

-- "a mark only under P with b = 0, and present where the rule demands it"; none for a VCPU that the plan lacks
abbrev pub mark_good_at : Policy → List ℕ → List ℕ → List Bool → List ℕ → ℕ → Bool
mark_good_at p t ls ss hs v =
    if get_or ss (v - 1) false then under_p p && (has_vcpu t v && eqb (get_or ls (v - 1) 0) 0) else not (under_p p && idle t ls hs v)

abbrev pub vcpu_good_at : Policy → List ℕ → List ℕ → List ℕ → List Bool → List ℕ → ℕ → Bool
vcpu_good_at p t ls os ss hs v =
    figures_good (budget_of t v) (overrun_of t v) (get_or ls (v - 1) 0) (get_or os (v - 1) 0) && mark_good_at p t ls ss hs v
