-- The answers of a plan's rows: VCPUs, waits and tasks.
use Rattle.std.specs.Prelude.{ℕ, Bool, true, false, ◌&&◌}
use Rattle.laws.specs.Choice.{when}
use Rattle.laws.specs.Sums.{sum, any, all}
use Rattle.search.specs.declared.Answer.{Answer}
use Rattle.search.specs.declared.Answer.TheVariants.{Fits, Late}
use Rattle.search.specs.Search.{solve}
use Rattle.plan.specs.declared.Lock.{Lock}
use Rattle.plan.specs.Plan.{Vcpu, Task}
use Rattle.figures.specs.System.{System}
use Rattle.figures.specs.Figures.{higher_task, vcpu_start, vcpu_demand, wait_start, wait_demand, lengths, task_demand, is_section}
pub use Rattle.figures.specs.declared.TaskAnswer.{TaskAnswer}
pub use Rattle.figures.specs.declared.TaskAnswer.TheVariants.{Searched, NoWait, Held}

-- The limit for a VCPU or a task is its own period; of a wait, the waiting task's period
abbrev pub vcpu_limit : Vcpu → ℕ
vcpu_limit x = x.period

abbrev pub task_limit : Task → ℕ
task_limit k = k.period

abbrev pub wait_limit : Task → ℕ
wait_limit k = k.period

-- the answer is fits with w, or late
unfoldable pub vcpu_answer : System → Vcpu → Answer
vcpu_answer p x = solve (vcpu_demand p x) (vcpu_start p x) (vcpu_limit x)

-- the remote wait of task k at its lock l, a global section
unfoldable pub wait_answer : System → Task → Lock → Answer
wait_answer p k l = solve (wait_demand p k.v l.m) (wait_start p k.v l.m) (wait_limit k)

abbrev pub ticks_of : Answer → ℕ
ticks_of (Fits w n) = w
ticks_of (Late n) = 0

abbrev pub is_fits : Answer → Bool
is_fits (Fits w n) = true
is_fits (Late n) = false

abbrev pub is_late : Answer → Bool
is_late (Fits w n) = false
is_late (Late n) = true

-- a task's remote waits: one for each of its global sections
unfoldable pub remote_waits : System → Task → ℕ
remote_waits p k = sum (λ l. when (is_section p l) (ticks_of (wait_answer p k l))) k.locks

-- one of its own waits has no answer
unfoldable pub lacks_wait : System → Task → Bool
lacks_wait p k = any (λ l. is_section p l && is_late (wait_answer p k l)) k.locks

-- a higher task of its VCPU has such a wait
unfoldable pub is_held : System → Task → Bool
is_held p k = any (λ h. higher_task k h && lacks_wait p h) p.tasks

-- A task is `nowait` if one of its own waits has no answer, else `held` if a higher task of its VCPU has such a wait
unfoldable pub task_answer : System → Task → TaskAnswer
task_answer p k =
    elim (lacks_wait p k) [
      | true ↦ NoWait
      | false ↦ elim (is_held p k) [ true ↦ Held | false ↦ Searched (solve (task_demand p (remote_waits p) k) (lengths k) (task_limit k)) ]
    ]

abbrev pub task_fits : TaskAnswer → Bool
task_fits (Searched a) = is_fits a
task_fits NoWait = false
task_fits Held = false

-- `all late` unless every vcpu and task fits
unfoldable pub all_fit : System → Bool
all_fit p = all (λ x. is_fits (vcpu_answer p x)) p.vcpus && all (λ k. task_fits (task_answer p k)) p.tasks
