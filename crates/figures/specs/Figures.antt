-- Figures from the paper: equations 1 to 9 and 11 to 16 as document 01 condenses them, equation 7 as document 02 (iii) mends it.
use Rattle.std.specs.Prelude.{ℕ, ◌+◌, ◌-◌, ◌*◌, Bool, ◌&&◌, eqb, ltb, leb}
use Rattle.laws.specs.Choice.{when}
use Rattle.laws.specs.Sums.{up, sum, greatest, any, first}
use Rattle.plan.specs.declared.Policy.{Policy}
use Rattle.plan.specs.declared.Policy.TheVariants.{Periodic, Deferrable}
use Rattle.plan.specs.declared.OverrunChoice.{OverrunChoice}
use Rattle.plan.specs.declared.OverrunChoice.TheVariants.{WithOverrun, WithoutOverrun}
use Rattle.plan.specs.declared.Lock.{Lock}
use Rattle.plan.specs.Plan.{Vcpu, Task}
pub use Rattle.plan.specs.Plan.{no_vcpu}
use Rattle.plan.specs.Lookup.{global, local_to}
use Rattle.figures.specs.System.{System}

-- VCPU v of the plan, which a task or a section names
unfoldable pub vcpu_at : System → ℕ → Vcpu
vcpu_at p v = first (λ x. eqb x.v v) no_vcpu p.vcpus

-- "A larger number is a higher priority": lower and higher VCPUs on the same core, lower and higher tasks of the VCPU
abbrev pub lower_on : Vcpu → Vcpu → Bool
lower_on x y = ltb y.v x.v && eqb y.core x.core

abbrev pub higher_on : Vcpu → Vcpu → Bool
higher_on x y = ltb x.v y.v && eqb y.core x.core

abbrev pub lower_task : Task → Task → Bool
lower_task k h = eqb h.v k.v && ltb h.n k.n

abbrev pub higher_task : Task → Task → Bool
higher_task k h = eqb h.v k.v && ltb k.n h.n

-- "Global section" means a lock on a G mutex
abbrev pub is_section : System → Lock → Bool
is_section p l = global p.mutexes l.m

-- its ticks, 0 for another lock
abbrev pub global_ticks : System → Lock → ℕ
global_ticks p l = when (is_section p l) l.ticks

-- a task's longest global section (0 if none), the sum of them, and how many there are
unfoldable pub longest_global : System → Task → ℕ
longest_global p k = greatest (global_ticks p) k.locks

unfoldable pub global_sum : System → Task → ℕ
global_sum p k = sum (global_ticks p) k.locks

unfoldable pub global_count : System → Task → ℕ
global_count p k = sum (λ l. when (is_section p l) 1) k.locks

-- ght(v), eq. 1: over tasks of v, the sum of each one's longest global section
unfoldable pub ght : System → ℕ → ℕ
ght p v = sum (λ k. when (eqb k.v v) (longest_global p k)) p.tasks

-- Overrun O(v) is ght(v) with policy O, else 0
abbrev pub overrun_by : OverrunChoice → ℕ → ℕ
overrun_by WithOverrun g = g
overrun_by WithoutOverrun g = 0

unfoldable pub overrun_of : System → ℕ → ℕ
overrun_of p v = overrun_by p.overrun (ght p v)

-- VCPU blocking in a window t, eqs. 2 to 4, of one lower VCPU: under P its ght;
-- under D, over its tasks, (t/period up, plus 1) times the sum of that task's global sections
unfoldable pub blocking_by : Policy → System → ℕ → ℕ → ℕ
blocking_by Periodic p v t = ght p v
blocking_by Deferrable p v t = sum (λ k. when (eqb k.v v) ((up t k.period + 1) * global_sum p k)) p.tasks

-- over lower VCPUs on the same core
unfoldable pub blocking : System → Vcpu → ℕ → ℕ
blocking p x t = sum (λ y. when (lower_on x y) (blocking_by p.policy p y.v t)) p.vcpus

-- gap = period − budget
abbrev pub gap : Vcpu → ℕ
gap x = x.period - x.budget

-- J is 0 under P, period − budget under D
abbrev pub jitter : Policy → Vcpu → ℕ
jitter Periodic y = 0
jitter Deferrable y = gap y

-- VCPU demand at t, eq. 5: budget + O + blocking(t) + for each higher VCPU on the core ((t + J)/period up) × (its budget + its O)
-- Start: budget + O
unfoldable pub vcpu_start : System → Vcpu → ℕ
vcpu_start p x = x.budget + overrun_of p x.v

unfoldable pub vcpu_demand : System → Vcpu → ℕ → ℕ
vcpu_demand p x t =
    vcpu_start p x + blocking p x t + sum (λ y. when (higher_on x y) (up (t + jitter p.policy y) y.period * vcpu_start p y)) p.vcpus

-- load of a global section l of task k, eq. 12: its length plus, for each higher task of its VCPU, that task's longest global section
unfoldable pub load : System → Task → Lock → ℕ
load p k l = l.ticks + sum (λ h. when (higher_task k h) (longest_global p h)) p.tasks

-- Preemption, eq. 13: the sum of ght over higher VCPUs on the same core
unfoldable pub preemption : System → Vcpu → ℕ
preemption p x = sum (λ y. when (higher_on x y) (ght p y.v)) p.vcpus

-- Section response, eqs. 14 to 16: P with overrun, gap + load + preemption; D with overrun, load + preemption;
-- without overrun, (load/budget up) × gap + load + preemption
abbrev pub response_by : Policy → OverrunChoice → Vcpu → ℕ → ℕ → ℕ
response_by Periodic WithOverrun x load pre = gap x + load + pre
response_by Deferrable WithOverrun x load pre = load + pre
response_by Periodic WithoutOverrun x load pre = up load x.budget * gap x + load + pre
response_by Deferrable WithoutOverrun x load pre = up load x.budget * gap x + load + pre

unfoldable pub response : System → Task → Lock → ℕ
response p k l = response_by p.policy p.overrun (vcpu_at p k.v) (load p k l) (preemption p (vcpu_at p k.v))

-- Remote wait demand at t, eq. 11, of a task of VCPU v for the global mutex m. Start: the greatest response of sections on that mutex
-- by tasks of lower VCPUs, any core (0 if none)
unfoldable pub wait_start : System → ℕ → ℕ → ℕ
wait_start p v m = greatest (λ k. when (ltb k.v v) (greatest (λ l. when (eqb l.m m) (response p k l)) k.locks)) p.tasks

-- plus, for each such section of a higher VCPU's task, (t/that task's period up, plus 1) × its response
unfoldable pub wait_demand : System → ℕ → ℕ → ℕ → ℕ
wait_demand p v m t =
    wait_start p v m
    + sum (λ k. when (ltb v k.v) (sum (λ l. when (eqb l.m m) ((up t k.period + 1) * response p k l)) k.locks)) p.tasks

-- the task's sheet locks m
abbrev pub locks_it : ℕ → Task → Bool
locks_it m k = any (λ l. eqb l.m m) k.locks

-- A local mutex's ceiling is the greatest n whose sheet locks it, 0 if none
unfoldable pub ceiling : System → ℕ → ℕ
ceiling p m = greatest (λ k. when (locks_it m k) k.n) p.tasks

-- "Local blocking must count sections whose ceiling is at least n" (document 02, iii)
abbrev pub ceiling_counts : ℕ → ℕ → Bool
ceiling_counts n c = leb n c

-- the longest local section of task h on a mutex whose ceiling is at least n
unfoldable pub longest_local : System → ℕ → Task → ℕ
longest_local p n h = greatest (λ l. when (local_to p.mutexes h.v l.m && ceiling_counts n (ceiling p l.m)) l.ticks) h.locks

-- Local blocking, eqs. 7 to 9: (longest local section of a lower task of the VCPU on a mutex whose ceiling is at least n,
-- plus the sum of lower tasks' longest global sections) × (own global sections + 1)
unfoldable pub local_blocking : System → Task → ℕ
local_blocking p k =
    (greatest (λ h. when (lower_task k h) (longest_local p k.n h)) p.tasks + sum (λ h. when (lower_task k h) (longest_global p h)) p.tasks)
    * (global_count p k + 1)

-- own lengths
unfoldable pub lengths : Task → ℕ
lengths k = k.first + sum (λ l. l.ticks + l.after) k.locks

-- Task demand at w, eq. 6, where `waits` are the remote waits of each task: own lengths + local blocking + own remote waits
-- + for each higher task h of the VCPU ((w + gap + remote waits of h)/period of h up) × lengths of h, plus ((w + budget)/VCPU period up) × gap
-- Start: own lengths
unfoldable pub task_demand : System → (Task → ℕ) → Task → ℕ → ℕ
task_demand p waits k w =
    let x = vcpu_at p k.v in
    lengths k + local_blocking p k + waits k
    + sum (λ h. when (higher_task k h) (up (w + gap x + waits h) h.period * lengths h)) p.tasks
    + up (w + x.budget) x.period * gap x
