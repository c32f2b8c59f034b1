-- What it means that slices hold the answers of a plan in lent tables: specs/Read, of a plan in `PlanTables`.
use Rattle.std.specs.Prelude.{ℕ, List}
use Rattle.figures_cells.specs.declared.PlanTables.{PlanTables}
use Rattle.answers_told.specs.Read as read

abbrev pub VcpuAnswersOf : PlanTables → List ℕ → Type 0
VcpuAnswersOf t va = read.VcpuAnswersIn t.plan t.vcpus.now t.mutexes.now t.tasks.now va

abbrev pub WaitAnswersOf : PlanTables → List ℕ → Type 0
WaitAnswersOf t wa = read.WaitAnswersIn t.plan t.vcpus.now t.mutexes.now t.tasks.now wa

abbrev pub TaskAnswersOf : PlanTables → List ℕ → Type 0
TaskAnswersOf t ta = read.TaskAnswersIn t.plan t.vcpus.now t.mutexes.now t.tasks.now ta

abbrev pub AnswersOf : PlanTables → List ℕ → List ℕ → List ℕ → Type 0
AnswersOf t va wa ta = read.AnswersIn t.plan t.vcpus.now t.mutexes.now t.tasks.now va wa ta
