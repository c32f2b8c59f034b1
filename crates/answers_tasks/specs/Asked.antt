-- What one row of lent tables answers, asked for by its names: 9 first (`if_given`), then 10 for what the plan lacks, else the definition's answer.
use Rattle.std.specs.Prelude.{ℕ, Bool, true, false, ◌&&◌, Result, Ok, Err}
use Rattle.search.specs.declared.Answer.{Answer}
use Rattle.plan.specs.declared.Refusal.TheVariants.{Foreign, Unknown}
use Rattle.plan.specs.Lookup.{has_vcpu}
use Rattle.plan.specs.declared.Refusal.{Refusal}
use Rattle.plan_tables.specs.declared.PlanRecord.{PlanRecord}
use Rattle.plan_tables.specs.Layout.{Tables}
use Rattle.plan_tables.specs.Given.{if_given}
use Rattle.figures.specs.System.{System, system}
use Rattle.figures.specs.Figures.{vcpu_at, response}
use Rattle.figures.specs.Named.{has_task, task_at, lock_at, has_section}
use Rattle.figures.specs.Answers.{vcpu_answer, wait_answer, task_answer}
use Rattle.figures.specs.declared.TaskAnswer.{TaskAnswer}

-- task (v, n) is in the plan, and a global section stands at its place i
abbrev pub has_place : System → ℕ → ℕ → ℕ → Bool
has_place s v n i = has_task s v n && has_section s (task_at s v n) i

-- OF A PLAN
-- how late VCPU v can finish
unfoldable pub vcpu_row_of : System → ℕ → Result Answer Refusal
vcpu_row_of s v = elim (has_vcpu s.vcpus v) [ true ↦ Ok (vcpu_answer s (vcpu_at s v)) | false ↦ Err Unknown ]

-- how long task (v, n) can wait at its lock place i
unfoldable pub wait_row_of : System → ℕ → ℕ → ℕ → Result Answer Refusal
wait_row_of s v n i = elim (has_place s v n i) [ true ↦ Ok (wait_answer s (task_at s v n) (lock_at (task_at s v n) i)) | false ↦ Err Unknown ]

-- how late task (v, n) can finish
unfoldable pub task_row_of : System → ℕ → ℕ → Result TaskAnswer Refusal
task_row_of s v n = elim (has_task s v n) [ true ↦ Ok (task_answer s (task_at s v n)) | false ↦ Err Unknown ]

-- the response of the global section of task (v, n) at its lock place i
unfoldable pub response_row_of : System → ℕ → ℕ → ℕ → Result ℕ Refusal
response_row_of s v n i = elim (has_place s v n i) [ true ↦ Ok (response s (task_at s v n) (lock_at (task_at s v n) i)) | false ↦ Err Unknown ]

-- OF LENT TABLES, 9 first
unfoldable pub vcpu_asked : PlanRecord → Tables → ℕ → Result Answer Refusal
vcpu_asked r t v = if_given r t (λ p. vcpu_row_of (system p) v) (Err Foreign)

unfoldable pub wait_asked : PlanRecord → Tables → ℕ → ℕ → ℕ → Result Answer Refusal
wait_asked r t v n i = if_given r t (λ p. wait_row_of (system p) v n i) (Err Foreign)

unfoldable pub task_asked : PlanRecord → Tables → ℕ → ℕ → Result TaskAnswer Refusal
task_asked r t v n = if_given r t (λ p. task_row_of (system p) v n) (Err Foreign)

unfoldable pub response_asked : PlanRecord → Tables → ℕ → ℕ → ℕ → Result ℕ Refusal
response_asked r t v n i = if_given r t (λ p. response_row_of (system p) v n i) (Err Foreign)
