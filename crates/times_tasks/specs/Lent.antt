-- What it means that the remote waits of a plan in lent tables are stored: specs/Waits, of a plan in `PlanTables`.
use Rattle.std.specs.Prelude.{ℕ, List}
use Rattle.figures_cells.specs.declared.PlanTables.{PlanTables}
use Rattle.times_tasks.specs.Waits as waits

abbrev pub WaitsOf : PlanTables → List ℕ → List ℕ → Type 0
WaitsOf t ws fs = waits.WaitsIn t.plan t.vcpus.now t.mutexes.now t.tasks.now ws fs
