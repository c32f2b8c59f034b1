-- "For an accepted plan a response time is reported exactly when some whole number of ticks from zero to the period is at least the demand that this number gives,
-- and it is the smallest such number. Remote waits obey the same rule. A task whose demand rests on a wait without such a number is named so."
-- And the rounds of a row: "the number of times the paper's recurrence evaluates the demand from its start until it repeats or passes the limit".
use Rattle.std.specs.Prelude.{ℕ, ◌+◌, ◌-◌, ◌≤◌, ◌<◌, ◌≡◌, Bool, true, ◌↔◌, Ok, Err}
use mathlib.Core.List.{List, [], ◌∷◌, ◌++◌, Memᴰ}
use Rattle.std.specs.Prelude.{if◌then◌else◌}
use Rattle.laws.specs.Sums.{Has, Chain}
use Rattle.laws.specs.Decimal.{decimal}
use Rattle.search.specs.declared.Answer.{Answer}
use Rattle.search.specs.declared.Answer.TheVariants.{Fits}
use Rattle.search.specs.Search.{Rounds, rounds}
use Rattle.plan.specs.declared.Lock.{Lock}
use Rattle.plan.specs.declared.Refusal.TheVariants.{Unknown}
use Rattle.plan.specs.Line.{w_vcpu, w_task}
use Rattle.plan.specs.Plan.{Vcpu, Task, Plan, tasks_of}
use Rattle.plan.specs.Declares.{Declared, GlobalMutex}
use Rattle.plan.specs.Valid.{PairRises}
use Rattle.plan_tables.specs.declared.PlanRecord.{PlanRecord}
use Rattle.plan_tables.specs.Layout.{Tables}
use Rattle.plan_tables.specs.Given.{plan_in}
use Rattle.figures.specs.System.{System, system}
use Rattle.figures.specs.Figures.{vcpu_start, vcpu_demand, wait_start, wait_demand, lengths, task_demand, response}
use Rattle.figures.specs.declared.TaskAnswer.{TaskAnswer}
use Rattle.figures.specs.declared.TaskAnswer.TheVariants.{Searched, NoWait, Held}
use Rattle.figures.specs.Answers.{remote_waits}
use Rattle.figures.specs.Named.{Placed}
use Rattle.answers_tasks.specs.Asked.{vcpu_asked, wait_asked, task_asked, response_asked}
use Rattle.listing.specs.Listing.{w_wait, w_all, w_fits, w_late, line, answer_fields, task_fields, wait_fields, rising, listing}
use Rattle.listing.specs.ListingLaws.{Ended, Stands}

-- the system of the plan in lent tables
abbrev pub system_from : PlanRecord → Tables → System
system_from r t = system (plan_in r t)

-- some number from zero to the limit is at least its demand
abbrev pub HasNumber : (ℕ → ℕ) → ℕ → Type 0
HasNumber d limit = (t : ℕ) × (t ≤ limit) × (d t ≤ t)

-- a response time is reported exactly when some number from zero to the limit is at least its demand, and it is the smallest such number;
-- its rounds are those of the recurrence from its start: 0 where the start is already above the limit, and never more than limit − start + 1 otherwise
pub record Reports (d : ℕ → ℕ) (start limit : ℕ) (a : Answer) : Type 0 where
  pub exactly : ((w : ℕ) × (n : ℕ) × (a ≡ Fits w n)) ↔ HasNumber d limit
  pub smallest : (w n : ℕ) → a ≡ Fits w n → (w ≤ limit) × (d w ≤ w) × ((t : ℕ) → t ≤ limit → d t ≤ t → w ≤ t)
  pub counted : Rounds d start limit (rounds a)
  pub no_round : limit < start → rounds a ≡ 0
  pub few : start ≤ limit → rounds a ≤ limit - start + 1

-- task k has a global section whose wait has no number from zero to the task's period
abbrev pub NoNumber : System → Task → Type 0
NoNumber s k =
    (l : Lock) × Memᴰ l k.locks × GlobalMutex s.mutexes l.m × (¬ HasNumber (wait_demand s k.v l.m) k.period)

-- a higher task of its VCPU has such a section
abbrev pub HeldUp : System → Task → Type 0
HeldUp s k = (h : Task) × Memᴰ h s.tasks × (h.v ≡ k.v) × (k.n < h.n) × NoNumber s h

-- WHAT IS REPORTED of a row of a plan: of VCPU x, of task k's wait at its global section l, and of task k
abbrev pub VcpuReported : System → Vcpu → Answer → Type 0
VcpuReported s x a = Reports (vcpu_demand s x) (vcpu_start s x) x.period a

abbrev pub WaitReported : System → Task → Lock → Answer → Type 0
WaitReported s k l a = Reports (wait_demand s k.v l.m) (wait_start s k.v l.m) k.period a

-- "named so": nowait where one of its own waits has no number, else held where a higher task's has none; else it is searched,
-- with the numbers of its waits added up for its remote waits (`remote_waits_reported`, Reports)
abbrev pub TaskReported : System → Task → TaskAnswer → Type 0
TaskReported s k (Searched a) = (¬ NoNumber s k) × (¬ HeldUp s k) × Reports (task_demand s (remote_waits s) k) (lengths k) k.period a
TaskReported s k NoWait = NoNumber s k
TaskReported s k Held = (¬ NoNumber s k) × HeldUp s k

-- OF CALLS on tables u that plan p gives with the record r: each VCPU, each wait and each task of the plan is reported by its names, each section has its response, and what the plan lacks is refused 10
pub record RowsReported (p : Plan) (r : PlanRecord) (u : Tables) : Type 0 where
  pub vcpus : (x : Vcpu) → Memᴰ x p.vcpus → (a : Answer) × (vcpu_asked r u x.v ≡ Ok a) × VcpuReported (system p) x a
  pub waits :
      (k : Task) → Memᴰ k (tasks_of p.sections) → (i : ℕ) (l : Lock) → Placed k.locks i l → GlobalMutex p.mutexes l.m →
      (a : Answer) × (wait_asked r u k.v k.n i ≡ Ok a) × WaitReported (system p) k l a
  pub tasks :
      (k : Task) → Memᴰ k (tasks_of p.sections) → (a : TaskAnswer) × (task_asked r u k.v k.n ≡ Ok a) × TaskReported (system p) k a
  pub responses :
      (k : Task) → Memᴰ k (tasks_of p.sections) → (i : ℕ) (l : Lock) → Placed k.locks i l → GlobalMutex p.mutexes l.m →
      response_asked r u k.v k.n i ≡ Ok (response (system p) k l)
  pub no_vcpu_law : (v : ℕ) → ¬ Declared p.vcpus v → vcpu_asked r u v ≡ Err Unknown
  pub no_task_law : (v n : ℕ) → ¬ Has (λ k. (k.v ≡ v) × (k.n ≡ n)) (tasks_of p.sections) → task_asked r u v n ≡ Err Unknown
  pub no_place :
      (v n i : ℕ) → ¬ Has (λ k. (k.v ≡ v) × (k.n ≡ n) × ((l : Lock) × Placed k.locks i l × GlobalMutex p.mutexes l.m)) (tasks_of p.sections) →
      (wait_asked r u v n i ≡ Err Unknown) × (response_asked r u v n i ≡ Err Unknown)

-- OF WHAT `verdict` PRINTS of plan p: it is the plan's listing, the line of each VCPU, wait and task of the plan stands in it with what is reported of it,
-- and `all fits` is printed exactly when every VCPU has a number, and every task has one and rests on no wait without one
pub record RowsPrinted (p : Plan) (out : List ℕ) : Type 0 where
  pub listed : out ≡ listing (system p)
  -- "VCPUs first, then each task after its waits, both rising": the VCPUs rise, the tasks that are listed rise, and each is a task of the plan
  pub vcpus_rise : Chain (λ x y. x.v < y.v) p.vcpus
  pub rises : Chain (λ j k. PairRises j.v j.n k.v k.n) (rising (system p))
  pub none_else : (k : Task) → Memᴰ k (rising (system p)) → Memᴰ k (tasks_of p.sections)
  pub vcpus :
      (x : Vcpu) → Memᴰ x p.vcpus → (a : Answer) × Stands (line (w_vcpu ∷ decimal x.v ∷ answer_fields a)) out × VcpuReported (system p) x a
  pub waits :
      (k : Task) → Memᴰ k (tasks_of p.sections) → (i : ℕ) (l : Lock) → Placed k.locks i l → GlobalMutex p.mutexes l.m →
      (a : Answer) × Stands (line (w_wait ∷ decimal k.v ∷ decimal k.n ∷ decimal i ∷ wait_fields a)) out × WaitReported (system p) k l a
  pub tasks :
      (k : Task) → Memᴰ k (tasks_of p.sections) →
      (a : TaskAnswer) × Stands (line (w_task ∷ decimal k.v ∷ decimal k.n ∷ task_fields a)) out × TaskReported (system p) k a
  pub last : (b : Bool) × (before : List ℕ) × (out ≡ before ++ line (w_all ∷ (if b then w_fits else w_late) ∷ [])) × Ended before
      × ((b ≡ true)
      ↔ (((x : Vcpu) → Memᴰ x p.vcpus → HasNumber (vcpu_demand (system p) x) x.period)
      × ((k : Task) → Memᴰ k (tasks_of p.sections) →
      (¬ NoNumber (system p) k) × (¬ HeldUp (system p) k) × HasNumber (task_demand (system p) (remote_waits (system p)) k) k.period)))
