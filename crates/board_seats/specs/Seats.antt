-- What the view of a plan and a board's arrays say by the names v, n and m: t is the view, hs the holders, ws the waits.
use Rattle.std.specs.Prelude.{ℕ, ◌+◌, ◌-◌, ◌*◌, List, Bool, ◌&&◌, not, eqb, ltb, get_or}
use Rattle.laws.specs.Choice.{when}
use Rattle.plan.specs.Limits.{max_v, max_m, most_n}
use Rattle.plan.specs.Rules.{within}

abbrev pub is_v : ℕ → Bool
is_v v = within v 1 max_v

abbrev pub is_n : ℕ → Bool
is_n n = within n 1 most_n

abbrev pub is_m : ℕ → Bool
is_m m = within m 1 max_m

-- the seat of task (v, n), 1 to 128
abbrev pub seat : ℕ → ℕ → ℕ
seat v n = (v - 1) * most_n + n

-- THE VIEW: one list of numbers, so that an event scans no table

-- where each kind of number begins: budgets, overruns, owners, ceilings, tasks, what each task lists
abbrev pub at_overrun : ℕ
at_overrun = max_v

abbrev pub at_owner : ℕ
at_owner = max_v + max_v

abbrev pub at_ceiling : ℕ
at_ceiling = max_v + max_v + max_m

abbrev pub at_task : ℕ
at_task = max_v + max_v + max_m + max_m

abbrev pub at_lists : ℕ
at_lists = max_v + max_v + max_m + max_m + max_v * most_n

abbrev pub view_length : ℕ
view_length = max_v + max_v + max_m + max_m + max_v * most_n + max_v * most_n * max_m

-- the owner of a mutex: 0 where the plan lacks it, v where it is local to v, 17 where it is global
abbrev pub global_owner : ℕ
global_owner = max_v + 1

abbrev pub owner_at : List ℕ → ℕ → ℕ
owner_at t m = get_or t (at_owner + (m - 1)) 0

abbrev pub task_at : List ℕ → ℕ → ℕ → ℕ
task_at t v n = get_or t (at_task + (seat v n - 1)) 0

abbrev pub lock_at : List ℕ → ℕ → ℕ → ℕ → ℕ
lock_at t v n m = get_or t (at_lists + ((seat v n - 1) * max_m + (m - 1))) 0

abbrev pub has_vcpu : List ℕ → ℕ → Bool
has_vcpu t v = is_v v && ltb 0 (get_or t (v - 1) 0)

abbrev pub budget_of : List ℕ → ℕ → ℕ
budget_of t v = when (is_v v) (get_or t (v - 1) 0)

abbrev pub overrun_of : List ℕ → ℕ → ℕ
overrun_of t v = when (is_v v) (get_or t (at_overrun + (v - 1)) 0)

abbrev pub has_task : List ℕ → ℕ → ℕ → Bool
has_task t v n = (is_v v && is_n n) && ltb 0 (task_at t v n)

abbrev pub lists_it : List ℕ → ℕ → ℕ → ℕ → Bool
lists_it t v n m = ((is_v v && is_n n) && is_m m) && ltb 0 (lock_at t v n m)

abbrev pub has_mutex : List ℕ → ℕ → Bool
has_mutex t m = is_m m && ltb 0 (owner_at t m)

abbrev pub is_global : List ℕ → ℕ → Bool
is_global t m = is_m m && eqb (owner_at t m) global_owner

abbrev pub is_local : List ℕ → ℕ → ℕ → Bool
is_local t v m = (is_v v && is_m m) && eqb (owner_at t m) v

abbrev pub ceiling_of : List ℕ → ℕ → ℕ
ceiling_of t m = when (is_m m) (get_or t (at_ceiling + (m - 1)) 0)

-- THE BOARD'S ARRAYS

abbrev pub holds_it : List ℕ → ℕ → ℕ → ℕ → Bool
holds_it hs v n m = eqb (get_or hs (m - 1) 0) (seat v n)

abbrev pub held_by_other : List ℕ → ℕ → ℕ → ℕ → Bool
held_by_other hs v n m = not (eqb (get_or hs (m - 1) 0) 0) && not (holds_it hs v n m)

abbrev pub wait_at : List ℕ → ℕ → ℕ → ℕ
wait_at ws v n = get_or ws (seat v n - 1) 0

abbrev pub local_waiter : List ℕ → List ℕ → ℕ → ℕ → Bool
local_waiter t ws v n = not (eqb (wait_at ws v n) 0) && is_local t v (wait_at ws v n)
