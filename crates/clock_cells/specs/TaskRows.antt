-- The task rows of lent tables, as the code that writes the times finds them: by seat, once for all.
use Rattle.std.specs.Prelude.{ℕ, ◌+◌, ◌/◌, ◌%◌, ◌<◌, ◌≤◌, ◌≡◌, List, ltb, length, get_or}
use Rattle.std.specs.Prelude.{if◌then◌else◌}
use Rattle.plan.specs.Plan.{Task, no_task}
use Rattle.plan_tables.specs.declared.PlanRecord.{PlanRecord}
use Rattle.plan_tables.specs.Layout.{task_row}
use Rattle.figures_found.specs.First.{TaskFirst}

-- the task of row a, or none
unfoldable pub task_in : PlanRecord → List ℕ → ℕ → Task
task_in r ts a = if ltb a r.tasks then task_row ts a else no_task

-- of the n numbers of xs, P holds of the first i, each with its place
pub record Listed (P : ℕ → ℕ → Type 0) (n : ℕ) (xs : List ℕ) (i : ℕ) : Type 0 where
  pub within : i ≤ n
  pub room : length xs ≡ n
  pub at : (j : ℕ) → j < i → P j (get_or xs j 0)

-- a is the row of the task whose seat stands at place j, from 0
abbrev pub SeatRow : PlanRecord → List ℕ → ℕ → ℕ → Type 0
SeatRow r ts j a = TaskFirst r ts (j / 8 + 1) (j % 8 + 1) a

-- the rows of all seats
abbrev pub Rowed : PlanRecord → List ℕ → List ℕ → Type 0
Rowed r ts at = Listed (SeatRow r ts) 128 at 128
