-- A plan is read into records.
use Rattle.std.specs.Prelude.{ℕ, ◌*◌, min, ◌≡◌, List, ◌++◌, take, drop, Result, Ok, Err}
use Rattle.plan.specs.Limits.{most_tasks}
use Rattle.plan.specs.declared.Complaint.{Complaint}
use Rattle.plan_tables.specs.Layout.{Tables, lent, task_width}
use Rattle.plan_tables.specs.declared.PlanRecord.{PlanRecord}
use Rattle.read_answer.specs.Into.{plan_answer, tables_after}
use Rattle.records.specs.declared.Task.{Task}
use Rattle.records.specs.Sheet.{tables_of, saved}

-- how many records an answer writes
abbrev pub count_of : Result PlanRecord Complaint → ℕ
count_of (Ok r) = r.tasks
count_of (Err x) = 0

-- the records after reading these bytes into these tables: the rows of tasks that the plan leaves, and those beyond its count as lent; all as lent where it is refused
unfoldable pub sheets_after : List ℕ → List ℕ → List ℕ → List ℕ → List Task → List Task
sheets_after s vt mt ot ks = saved ks (tables_after s (tables_of vt mt ot ks)).tasks (count_of (plan_answer s (tables_of vt mt ot ks)))

-- WHAT A READER SAYS of tables t: its answer a, what it leaves of VCPUs, mutexes and opens, and K of the tasks
abbrev ReaderSays : List ℕ → Tables → Result PlanRecord Complaint → List ℕ → List ℕ → List ℕ → Type 0 → Type 0
ReaderSays s t a v m o K = (a ≡ plan_answer s t) × ((v ≡ (tables_after s t).vcpus) × ((m ≡ (tables_after s t).mutexes) × ((o ≡ (tables_after s t).opens) × K)))

-- the numbers of n records, and of no more than there are places for
abbrev pub nums_for : ℕ → ℕ
nums_for n = min n most_tasks * task_width

-- the reader into numbers t, of which those of n records are lent, and the rest is left
abbrev pub ReadIn : List ℕ → List ℕ → List ℕ → List ℕ → List ℕ → ℕ → Result PlanRecord Complaint → List ℕ → List ℕ → List ℕ → List ℕ → Type 0
ReadIn s vt mt ot t n a v m o w =
    ReaderSays s (lent vt mt ot (take (nums_for n) t)) a v m o (w ≡ (tables_after s (lent vt mt ot (take (nums_for n) t))).tasks ++ drop (nums_for n) t)

-- the reader into records
abbrev pub ReadOut : List ℕ → List ℕ → List ℕ → List ℕ → List Task → Result PlanRecord Complaint → List ℕ → List ℕ → List ℕ → List Task → Type 0
ReadOut s vt mt ot ks a v m o zs = ReaderSays s (tables_of vt mt ot ks) a v m o (zs ≡ sheets_after s vt mt ot ks)
