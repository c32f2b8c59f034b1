-- A plan: what its lines declare, in their order.
use Rattle.std.specs.Prelude.{ℕ, List, []}
use Rattle.laws.specs.Sums.{flat}
pub use Rattle.plan.specs.declared.Policy.{Policy}
pub use Rattle.plan.specs.declared.Policy.TheVariants.{Periodic, Deferrable}
pub use Rattle.plan.specs.declared.OverrunChoice.{OverrunChoice}
pub use Rattle.plan.specs.declared.OverrunChoice.TheVariants.{WithOverrun, WithoutOverrun}
pub use Rattle.plan.specs.declared.Lock.{Lock}

-- `vcpu v guest core budget period`
pub record Vcpu : Type 0 where
  pub v : ℕ
  pub guest : ℕ
  pub core : ℕ
  pub budget : ℕ
  pub period : ℕ

-- `mutex m G` is global, `mutex m L v` is local to v
pub data Owner : Type 0 where
  Global : Owner
  Local : ℕ → Owner

pub record Mutex : Type 0 where
  pub m : ℕ
  pub owner : Owner

-- `open m guest`
pub record Open : Type 0 where
  pub m : ℕ
  pub guest : ℕ

-- `task v n period`, then `run t`, then any number of pairs `lock m t`, `run t`: a pair is a Lock, with m, the ticks under it, and the run after it
pub record Task : Type 0 where
  pub v : ℕ
  pub n : ℕ
  pub period : ℕ
  pub first : ℕ
  pub locks : List Lock

-- `guest g`, then its tasks
pub record Section : Type 0 where
  pub guest : ℕ
  pub tasks : List Task

-- `policy p o`, VCPUs, mutexes, opens, sections
pub record Plan : Type 0 where
  pub policy : Policy
  pub overrun : OverrunChoice
  pub vcpus : List Vcpu
  pub mutexes : List Mutex
  pub opens : List Open
  pub sections : List Section

-- the tasks of a plan in the order of its lines
unfoldable pub tasks_of : List Section → List Task
tasks_of ss = flat (λ s. s.tasks) ss

-- what is said of a VCPU, a task or a lock that the plan lacks: zeros
abbrev pub no_vcpu : Vcpu
no_vcpu = record { v = 0; guest = 0; core = 0; budget = 0; period = 0 }

abbrev pub no_task : Task
no_task = record { v = 0; n = 0; period = 0; first = 0; locks = [] }

abbrev pub no_lock : Lock
no_lock = record { m = 0; ticks = 0; after = 0 }
