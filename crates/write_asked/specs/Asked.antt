-- "From tables of an accepted plan, write the plan's bytes into a lent buffer": the text of the plan in the tables. "Refusals: 9, then 8 when the bytes do not fit, with the buffer untouched".
use Rattle.std.specs.Prelude.{ℕ, ◌*◌, List, ◌++◌, take, drop, Result}
use Rattle.plan.specs.Text.{text}
use Rattle.plan.specs.declared.Refusal.{Refusal}
use Rattle.plan_tables.specs.declared.PlanRecord.{PlanRecord}
use Rattle.plan_tables.specs.Layout.{Tables, vcpu_width, mutex_width, open_width, task_width}
use Rattle.listing_asked.specs.Asked.{text_asked, text_left}

-- what the call answers, and what it leaves in the buffer o
abbrev pub plan_asked : PlanRecord → Tables → List ℕ → Result ℕ Refusal
plan_asked r t o = text_asked text r t o

abbrev pub plan_left : PlanRecord → Tables → List ℕ → List ℕ
plan_left r t o = text_left text r t o

-- the first n numbers of t over those of u
abbrev pub onto : ℕ → List ℕ → List ℕ → List ℕ
onto n t u = take n t ++ drop n u

-- the rows that the record counts, over those of other tables
unfoldable pub copied : PlanRecord → Tables → Tables → Tables
copied r t u = record {
  vcpus = onto (r.vcpus * vcpu_width) t.vcpus u.vcpus;
  mutexes = onto (r.mutexes * mutex_width) t.mutexes u.mutexes;
  opens = onto (r.opens * open_width) t.opens u.opens;
  tasks = onto (r.tasks * task_width) t.tasks u.tasks;
}
