-- The remote waits that lent slices hold, and the rows of a task's search.
use Rattle.std.specs.Prelude.{ℕ, ◌+◌, ◌≤◌, List, [], ◌∷◌, ◌++◌, map, length}
use Rattle.laws.specs.Choice.{when}
use Rattle.laws.specs.Sums.{only}
use Rattle.search.specs.Row.{Row}
use Rattle.plan.specs.Plan.{Vcpu, Task}
use Rattle.plan.specs.Limits.{most_tasks}
use Rattle.plan_tables.specs.declared.PlanRecord.{PlanRecord}
use Rattle.plan_tables.specs.Layout.{task_row}
use Rattle.figures.specs.System.{System}
use Rattle.figures.specs.Tabled.{system_in}
use Rattle.figures.specs.Figures.{higher_task, gap, lengths}
use Rattle.figures.specs.Answers.{remote_waits, lacks_wait}
use Rattle.figures_slices.specs.Stored.{ValuesAt}

-- ws has the remote waits of each task, and fs a 1 for each that lacks one
pub record Waits (s : System) (row : ℕ → Task) (n : ℕ) (ws fs : List ℕ) : Type 0 where
  pub waits_room : most_tasks ≤ length ws
  pub flags_room : most_tasks ≤ length fs
  pub waits : ValuesAt (λ i. i) 8000000 n (λ i. remote_waits s (row i)) ws
  pub flags : ValuesAt (λ i. i) 1 n (λ i. when (lacks_wait s (row i)) 1) fs

abbrev pub WaitsIn : PlanRecord → List ℕ → List ℕ → List ℕ → List ℕ → List ℕ → Type 0
WaitsIn r vt mt ts ws fs = Waits (system_in r vt mt ts) (task_row ts) r.tasks ws fs

-- EQUATION 6: the row of a higher task, on a VCPU with gap g, and that of the VCPU's supply
unfoldable pub preempt_row : System → ℕ → Task → Row
preempt_row s g h = record { shift = g + remote_waits s h; period = h.period; cost = lengths h }

unfoldable pub supply_row : Vcpu → Row
supply_row x = record { shift = x.budget; period = x.period; cost = gap x }

unfoldable pub task_rows : System → Task → Vcpu → List Row
task_rows s k x = map (preempt_row s (gap x)) (only (higher_task k) s.tasks) ++ (supply_row x ∷ [])
