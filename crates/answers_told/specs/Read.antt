-- The answers of a plan, read back from the number slices that hold them.
use Rattle.std.specs.Prelude.{ℕ, ◌+◌, ◌*◌, ◌≤◌, ◌<◌, ◌≡◌, Bool, true, List, eqb, length, get_or}
use Rattle.search.specs.declared.Answer.{Answer}
use Rattle.plan_tables.specs.declared.PlanRecord.{PlanRecord}
use Rattle.plan_tables.specs.Layout.{cell, vcpu_row, lock_row, task_row, task_width}
use Rattle.figures.specs.Tabled.{system_in}
use Rattle.figures.specs.declared.TaskAnswer.{TaskAnswer}
use Rattle.figures.specs.Answers.{vcpu_answer, wait_answer, task_answer}
use Rattle.figures.specs.Figures.{is_section}
use Rattle.figures.specs.Kinds.{answer_of, task_answer_of}

-- the answers at place k
unfoldable pub answer_in : List ℕ → ℕ → Answer
answer_in xs k = answer_of (get_or xs (k * 3) 0) (get_or xs (k * 3 + 1) 0) (get_or xs (k * 3 + 2) 0)

unfoldable pub task_answer_in : List ℕ → ℕ → TaskAnswer
task_answer_in xs k = task_answer_of (get_or xs (k * 3) 0) (get_or xs (k * 3 + 1) 0) (get_or xs (k * 3 + 2) 0)

-- the answer at place k is fits
abbrev pub fits_in : List ℕ → ℕ → Bool
fits_in xs k = eqb (get_or xs (k * 3) 0) 1

-- the slices have the answers of the plan in the tables
pub record VcpuAnswersIn (r : PlanRecord) (vt mt ts va : List ℕ) : Type 0 where
  pub room : 48 ≤ length va
  pub at : (a : ℕ) → a < r.vcpus → answer_in va a ≡ vcpu_answer (system_in r vt mt ts) (vcpu_row vt a)

pub record WaitAnswersIn (r : PlanRecord) (vt mt ts wa : List ℕ) : Type 0 where
  pub room : r.tasks * 24 ≤ length wa
  pub at : (i j : ℕ) → i < r.tasks → j < cell ts task_width i 4 → is_section (system_in r vt mt ts) (lock_row ts i j) ≡ true
      → answer_in wa (i * 8 + j) ≡ wait_answer (system_in r vt mt ts) (task_row ts i) (lock_row ts i j)

pub record TaskAnswersIn (r : PlanRecord) (vt mt ts ta : List ℕ) : Type 0 where
  pub room : r.tasks * 3 ≤ length ta
  pub at : (i : ℕ) → i < r.tasks → task_answer_in ta i ≡ task_answer (system_in r vt mt ts) (task_row ts i)

pub record AnswersIn (r : PlanRecord) (vt mt ts va wa ta : List ℕ) : Type 0 where
  pub vcpus : VcpuAnswersIn r vt mt ts va
  pub waits : WaitAnswersIn r vt mt ts wa
  pub tasks : TaskAnswersIn r vt mt ts ta
