-- Which plans are valid, in the words of document 01: "The plan, line by line", and what 5, 6 and 7 refuse.
use Rattle.std.specs.Prelude.{ℕ, ◌≤◌, ◌<◌, ◌≡◌, ◌⊎◌, List, length}
use Rattle.laws.specs.Sums.{Each, Chain, Some}
use Rattle.plan.specs.Limits.{max_v, max_guest, max_core, max_m, max_n, max_period, max_length, max_tasks, max_locks}
use Rattle.plan.specs.Plan.{Vcpu, Owner, Global, Local, Mutex, Open, Lock, Task, Section, Plan, tasks_of}
use Rattle.plan.specs.Declares.{Declared, VcpuOf, SomeVcpuOf, GlobalMutex, Reach}

-- x is in the range lo to hi
abbrev pub In : ℕ → ℕ → ℕ → Type 0
In x lo hi = (lo ≤ x) × (x ≤ hi)

-- "Rising" is strict: the pair (a, b) rises to (c, d)
abbrev pub PairRises : ℕ → ℕ → ℕ → ℕ → Type 0
PairRises a b c d = (a < c) ⊎ ((a ≡ c) × (b < d))

-- v 1 to 16, guest 1 to 4, core 0 to 3, period 1 to 1,000,000, budget 1 to its period
pub record VcpuValid (r : Vcpu) : Type 0 where
  pub v_in : In r.v 1 max_v
  pub guest_in : In r.guest 1 max_guest
  pub core_in : In r.core 0 max_core
  pub period_in : In r.period 1 max_period
  pub budget_in : In r.budget 1 r.period

-- a local mutex's VCPU is in its range and declared
abbrev pub OwnerValid : List Vcpu → Owner → Type 0
OwnerValid vs Global = Unit {0}
OwnerValid vs (Local v) = In v 1 max_v × Declared vs v

-- m 1 to 32, and its owner as above
pub record MutexValid (vs : List Vcpu) (r : Mutex) : Type 0 where
  pub m_in : In r.m 1 max_m
  pub owned : OwnerValid vs r.owner

-- an `open` names a global mutex and a guest that has a VCPU declared
pub record OpenValid (vs : List Vcpu) (ms : List Mutex) (r : Open) : Type 0 where
  pub m_in : In r.m 1 max_m
  pub guest_in : In r.guest 1 max_guest
  pub is_global_law : GlobalMutex ms r.m
  pub has_vcpu_law : SomeVcpuOf vs r.guest

-- a lock of a task of VCPU v in guest g's section: lock 1 to 1,000,000, run 0 to 1,000,000, its mutex local to v or a global one opened to g
pub record LockValid (ms : List Mutex) (os : List Open) (g v : ℕ) (l : Lock) : Type 0 where
  pub m_in : In l.m 1 max_m
  pub ticks_in : In l.ticks 1 max_length
  pub after_in : In l.after 0 max_length
  pub within_reach : Reach ms os g v l.m

-- a task in guest g's section: its VCPU is declared and is g's; at most 8 locks
pub record TaskValid (vs : List Vcpu) (ms : List Mutex) (os : List Open) (g : ℕ) (k : Task) : Type 0 where
  pub v_in : In k.v 1 max_v
  pub n_in : In k.n 1 max_n
  pub period_in : In k.period 1 max_period
  pub own_vcpu_law : VcpuOf vs g k.v
  pub first_in_law : In k.first 0 max_length
  pub few_locks : length k.locks ≤ max_locks
  pub locks_valid : Each (LockValid ms os g k.v) k.locks

-- a section: its guest has a VCPU declared; one or more tasks, (v, n) rising
pub record SectionValid (vs : List Vcpu) (ms : List Mutex) (os : List Open) (s : Section) : Type 0 where
  pub guest_in : In s.guest 1 max_guest
  pub has_vcpu_law : SomeVcpuOf vs s.guest
  pub some_task : Some s.tasks
  pub tasks_rise : Chain (λ j k. PairRises j.v j.n k.v k.n) s.tasks
  pub tasks_valid : Each (TaskValid vs ms os s.guest) s.tasks

-- one or more VCPUs, v rising; mutexes, m rising; opens, pairs rising; one or more sections, g rising; at most 64 tasks
pub record Valid (p : Plan) : Type 0 where
  pub some_vcpu : Some p.vcpus
  pub vcpus_rise : Chain (λ r s. r.v < s.v) p.vcpus
  pub vcpus_valid : Each VcpuValid p.vcpus
  pub mutexes_rise : Chain (λ r s. r.m < s.m) p.mutexes
  pub mutexes_valid : Each (MutexValid p.vcpus) p.mutexes
  pub opens_rise : Chain (λ r s. PairRises r.m r.guest s.m s.guest) p.opens
  pub opens_valid : Each (OpenValid p.vcpus p.mutexes) p.opens
  pub some_section : Some p.sections
  pub sections_rise : Chain (λ r s. r.guest < s.guest) p.sections
  pub sections_valid : Each (SectionValid p.vcpus p.mutexes p.opens) p.sections
  pub few_tasks : length (tasks_of p.sections) ≤ max_tasks
