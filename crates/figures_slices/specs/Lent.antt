-- What it means that the figures of a plan in lent tables are stored: specs/Stored, of a plan in `PlanTables`.
use Rattle.std.specs.Prelude.{ℕ, List}
use Rattle.figures_cells.specs.declared.PlanTables.{PlanTables}
use Rattle.figures_slices.specs.Stored as stored

abbrev pub TasksOf : PlanTables → List ℕ → Type 0
TasksOf t tf = stored.TasksIn t.plan t.vcpus.now t.mutexes.now t.tasks.now tf

abbrev pub BlockingsOf : PlanTables → List ℕ → Type 0
BlockingsOf t tf = stored.BlockingsIn t.plan t.vcpus.now t.mutexes.now t.tasks.now tf

abbrev pub VcpusOf : PlanTables → List ℕ → Type 0
VcpusOf t vf = stored.VcpusIn t.plan t.vcpus.now t.mutexes.now t.tasks.now vf

abbrev pub PreemptionsOf : PlanTables → List ℕ → Type 0
PreemptionsOf t vf = stored.PreemptionsIn t.plan t.vcpus.now t.mutexes.now t.tasks.now vf

abbrev pub ResponsesOf : PlanTables → List ℕ → Type 0
ResponsesOf t rf = stored.ResponsesIn t.plan t.vcpus.now t.mutexes.now t.tasks.now rf

abbrev pub StoredOf : PlanTables → List ℕ → List ℕ → List ℕ → Type 0
StoredOf t tf vf rf = stored.Stored t.plan t.vcpus.now t.mutexes.now t.tasks.now tf vf rf
