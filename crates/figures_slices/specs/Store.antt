-- The answers of a whole plan, worked out once into number slices: three numbers for each VCPU, each lock place and each task.
use Rattle.std.specs.Prelude.{ℕ, ◌-◌, ◌*◌, List, [], ◌∷◌, ◌++◌, length}
use Rattle.std.specs.Prelude.{if◌then◌else◌}
use Rattle.laws.specs.Sums.{flat}
use Rattle.search.specs.declared.Answer.{Answer}
use Rattle.search.specs.Search.{rounds}
use Rattle.plan.specs.Limits.{max_locks}
use Rattle.plan.specs.declared.Lock.{Lock}
use Rattle.plan.specs.Plan.{Task}
use Rattle.plan_tables.specs.Layout.{zeros}
use Rattle.figures.specs.System.{System}
use Rattle.figures.specs.declared.TaskAnswer.{TaskAnswer}
use Rattle.figures.specs.Answers.{vcpu_answer, wait_answer, task_answer, ticks_of}
use Rattle.figures.specs.Figures.{is_section}
use Rattle.figures.specs.Kinds.{answer_kind, task_kind, task_ticks, task_rounds}

-- the numbers of an answer: its kind, its ticks, its rounds
abbrev pub answer_width : ℕ
answer_width = 3

abbrev pub answer_cells : Answer → List ℕ
answer_cells a = answer_kind a ∷ ticks_of a ∷ rounds a ∷ []

abbrev pub task_answer_cells : TaskAnswer → List ℕ
task_answer_cells a = task_kind a ∷ task_ticks a ∷ task_rounds a ∷ []

-- the VCPUs' answers, in the order of the table
unfoldable pub vcpu_answers : System → List ℕ
vcpu_answers s = flat (λ x. answer_cells (vcpu_answer s x)) s.vcpus

-- the waits of a task: one answer for each lock place, zeros where the lock is local or there is none
abbrev pub wait_cells : System → Task → Lock → List ℕ
wait_cells s k l = if is_section s l then answer_cells (wait_answer s k l) else zeros answer_width

unfoldable pub place_cells : System → Task → List ℕ
place_cells s k = flat (wait_cells s k) k.locks ++ zeros ((max_locks - length k.locks) * answer_width)

unfoldable pub wait_answers : System → List ℕ
wait_answers s = flat (place_cells s) s.tasks

-- the tasks' answers, in the order of the table
unfoldable pub task_answers : System → List ℕ
task_answers s = flat (λ k. task_answer_cells (task_answer s k)) s.tasks
