-- What it means that a plan's figures are stored in lent slices: the only place that knows where each stands.
use Rattle.std.specs.Prelude.{ℕ, ◌+◌, ◌*◌, ◌/◌, ◌%◌, ◌≤◌, ◌<◌, List, length, get_or}
use Rattle.laws.specs.Choice.{when}
use Rattle.laws.specs.Sums.{up}
use Rattle.laws.specs.Rows.{Is}
use Rattle.plan.specs.declared.Policy.{Policy}
use Rattle.plan.specs.declared.Policy.TheVariants.{Periodic, Deferrable}
use Rattle.plan.specs.declared.OverrunChoice.{OverrunChoice}
use Rattle.plan.specs.declared.OverrunChoice.TheVariants.{WithOverrun, WithoutOverrun}
use Rattle.plan.specs.Plan.{Vcpu, Task}
use Rattle.plan_tables.specs.declared.PlanRecord.{PlanRecord}
use Rattle.plan_tables.specs.Layout.{vcpu_row, lock_row, task_row}
use Rattle.figures.specs.System.{System}
use Rattle.figures.specs.Tabled.{system_in}
use Rattle.figures.specs.Figures.{longest_global, global_sum, global_count, lengths, local_blocking, ght, vcpu_start, preemption, response}
use Rattle.figures_slices.specs.Filled.{section_at}

-- xs has f i, which is at most b, at the place of each i below n
pub record ValuesAt (place : ℕ → ℕ) (b n : ℕ) (f : ℕ → ℕ) (xs : List ℕ) : Type 0 where
  pub at : (i : ℕ) → i < n → Is (get_or xs (place i) 0) (f i) b

-- TASKS, five numbers each: the longest global section, the sum and the number of global sections, the lengths; and the local blocking
pub record TaskFigures (s : System) (row : ℕ → Task) (n : ℕ) (tf : List ℕ) : Type 0 where
  pub room : n * 5 ≤ length tf
  pub longest : ValuesAt (λ i. i * 5) 1000000 n (λ i. longest_global s (row i)) tf
  pub sums : ValuesAt (λ i. i * 5 + 1) 8000000 n (λ i. global_sum s (row i)) tf
  pub counts : ValuesAt (λ i. i * 5 + 2) 8 n (λ i. global_count s (row i)) tf
  pub spans : ValuesAt (λ i. i * 5 + 3) 17000000 n (λ i. lengths (row i)) tf

abbrev pub Blockings : System → (ℕ → Task) → ℕ → List ℕ → Type 0
Blockings s row n tf = ValuesAt (λ i. i * 5 + 4) 585000000 n (λ i. local_blocking s (row i)) tf

-- VCPUS, three numbers each: ght, and budget with overrun; and the preemption
pub record VcpuFigures (s : System) (row : ℕ → Vcpu) (n : ℕ) (vf : List ℕ) : Type 0 where
  pub room : 48 ≤ length vf
  pub ghts : ValuesAt (λ a. a * 3) 64000000 n (λ a. ght s (row a).v) vf
  pub starts : ValuesAt (λ a. a * 3 + 1) 65000000 n (λ a. vcpu_start s (row a)) vf

abbrev pub Preemptions : System → (ℕ → Vcpu) → ℕ → List ℕ → Type 0
Preemptions s row n vf = ValuesAt (λ a. a * 3 + 2) 1024000000 n (λ a. preemption s (row a)) vf

-- SECTIONS: the response of lock j of task i at i * 8 + j, 0 where there is no such global section
unfoldable pub section_response : System → List ℕ → ℕ → ℕ → ℕ
section_response s t i j = when (section_at s t i j) (response s (task_row t i) (lock_row t i j))

abbrev pub max_response : ℕ
max_response = 65001089000000

abbrev pub Responses : System → List ℕ → ℕ → List ℕ → Type 0
Responses s t n rf = ValuesAt (λ k. k) max_response n (λ k. section_response s t (k / 8) (k % 8)) rf

-- THE FIGURES OF THE PLAN IN THE TABLES, kind by kind and all
abbrev pub TasksIn : PlanRecord → List ℕ → List ℕ → List ℕ → List ℕ → Type 0
TasksIn r vt mt ts tf = TaskFigures (system_in r vt mt ts) (task_row ts) r.tasks tf

abbrev pub BlockingsIn : PlanRecord → List ℕ → List ℕ → List ℕ → List ℕ → Type 0
BlockingsIn r vt mt ts tf = Blockings (system_in r vt mt ts) (task_row ts) r.tasks tf

abbrev pub VcpusIn : PlanRecord → List ℕ → List ℕ → List ℕ → List ℕ → Type 0
VcpusIn r vt mt ts vf = VcpuFigures (system_in r vt mt ts) (vcpu_row vt) r.vcpus vf

abbrev pub PreemptionsIn : PlanRecord → List ℕ → List ℕ → List ℕ → List ℕ → Type 0
PreemptionsIn r vt mt ts vf = Preemptions (system_in r vt mt ts) (vcpu_row vt) r.vcpus vf

abbrev pub ResponsesIn : PlanRecord → List ℕ → List ℕ → List ℕ → List ℕ → Type 0
ResponsesIn r vt mt ts rf = Responses (system_in r vt mt ts) ts (r.tasks * 8) rf

pub record Stored (r : PlanRecord) (vt mt ts tf vf rf : List ℕ) : Type 0 where
  pub tasks : TasksIn r vt mt ts tf
  pub blockings : BlockingsIn r vt mt ts tf
  pub vcpus : VcpusIn r vt mt ts vf
  pub preemptions : PreemptionsIn r vt mt ts vf
  pub room : r.tasks * 8 ≤ length rf
  pub responses : ResponsesIn r vt mt ts rf

-- equations 14 to 16, of a VCPU with this gap and budget
abbrev pub response_for : Policy → OverrunChoice → ℕ → ℕ → ℕ → ℕ → ℕ
response_for Periodic WithOverrun gap budget load pre = gap + load + pre
response_for Deferrable WithOverrun gap budget load pre = load + pre
response_for Periodic WithoutOverrun gap budget load pre = up load budget * gap + load + pre
response_for Deferrable WithoutOverrun gap budget load pre = up load budget * gap + load + pre
