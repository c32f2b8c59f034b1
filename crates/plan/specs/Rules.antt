-- What is wrong with a line after the lines before it, and what is known after it.
use Rattle.std.specs.Prelude.{ℕ, zero, suc, ◌+◌, Bool, false, ◌&&◌, ◌||◌, eqb, leb, ltb, Ok}
use mathlib.Core.List.{List, [], ◌∷◌, ◌++◌, tail}
use Rattle.plan.specs.Limits.{max_v, max_guest, max_core, max_m, max_n, max_period, max_length, max_tasks, max_locks}
use Rattle.plan.specs.Refusals.{Refusal, Range, Order, Missing, Outside, TooMany, Fault, unless}
use Rattle.plan.specs.Line.{Item, head_or, Kind, PlanLine, PolicyPO, PolicyPN, PolicyDO, PolicyDN, VcpuLine, MutexG, MutexL, OpenLine, GuestLine, TaskLine, RunLine, LockLine, EndLine, AskLine, FreeLine, UseLine, TopLine, ShowLine}
use Rattle.plan.specs.Plan.{Vcpu, Global, Local, Mutex, Open}
use Rattle.plan.specs.Lookup.{has_vcpu, is_vcpu_of, has_guest, has_mutex, global, reaches}

-- WHERE A LINE MAY STAND: by the line before it, told by a number
-- 0 none, 1 plan, 2 policy, 3 vcpu, 4 mutex, 5 open, 6 guest, 7 run, 8 task, 9 lock, 10 end; 11 for a line that no plan has
unfoldable pub phase : Kind → ℕ
phase PlanLine = 1
phase PolicyPO = 2
phase PolicyPN = 2
phase PolicyDO = 2
phase PolicyDN = 2
phase VcpuLine = 3
phase MutexG = 4
phase MutexL = 4
phase OpenLine = 5
phase GuestLine = 6
phase RunLine = 7
phase TaskLine = 8
phase LockLine = 9
phase EndLine = 10
phase AskLine = 11
phase FreeLine = 11
phase UseLine = 11
phase TopLine = 11
phase ShowLine = 11

abbrev pub within : ℕ → ℕ → ℕ → Bool
within x lo hi = leb lo x && leb x hi

-- may a line of this kind follow a line of phase q?
unfoldable pub follows : ℕ → Kind → Bool
follows q PlanLine = eqb q 0
follows q PolicyPO = eqb q 1
follows q PolicyPN = eqb q 1
follows q PolicyDO = eqb q 1
follows q PolicyDN = eqb q 1
follows q VcpuLine = within q 2 3
follows q MutexG = within q 3 4
follows q MutexL = within q 3 4
follows q OpenLine = within q 3 5
follows q GuestLine = within q 3 5 || eqb q 7
follows q TaskLine = within q 6 7
follows q RunLine = within q 8 9
follows q LockLine = eqb q 7
follows q EndLine = eqb q 7
follows q AskLine = false
follows q FreeLine = false
follows q UseLine = false
follows q TopLine = false
follows q ShowLine = false

-- the k-th number of a line, from 0
abbrev pub nth : ℕ → List ℕ → ℕ
nth zero ns = head_or ns
nth (suc k) ns = nth k (tail ns)

abbrev pub vcpu_of : List ℕ → Vcpu
vcpu_of ns = record { v = nth 0 ns; guest = nth 1 ns; core = nth 2 ns; budget = nth 3 ns; period = nth 4 ns }

-- the last row of a table, d where it has none
abbrev pub last : {A : Type 0} → A → List A → A
last d [] = d
last d (x ∷ xs) = last x xs

-- WHAT IS KNOWN after some lines: the phase, the tables, and of the section its guest, its last task (v, n), the tasks of the plan and the locks of the task so far
pub record Known : Type 0 where
  pub phase : ℕ
  pub vcpus : List Vcpu
  pub mutexes : List Mutex
  pub opens : List Open
  pub guest : ℕ
  pub v : ℕ
  pub n : ℕ
  pub tasks : ℕ
  pub locks : ℕ

abbrev pub known : ℕ → List Vcpu → List Mutex → List Open → ℕ → ℕ → ℕ → ℕ → ℕ → Known
known q vs ms os g v n ts ls = record { phase = q; vcpus = vs; mutexes = ms; opens = os; guest = g; v = v; n = n; tasks = ts; locks = ls }

abbrev pub start : Known
start = known 0 [] [] [] 0 0 0 0 0

-- the last number that a table rose to, 0 before the first
abbrev pub last_v : List Vcpu → ℕ
last_v vs = (last (vcpu_of []) vs).v

abbrev pub last_m : List Mutex → ℕ
last_m ms = (last (record { m = 0; owner = Global }) ms).m

abbrev pub last_open : List Open → Open
last_open os = last (record { m = 0; guest = 0 }) os

-- pairs compare as pairs
abbrev pub rises : ℕ → ℕ → ℕ → ℕ → Bool
rises a b c d = ltb a c || (eqb a c && ltb b d)

-- Ranges: v 1 to 16, guest 1 to 4, core 0 to 3, period 1 to 1,000,000, budget 1 to its period
unfoldable pub vcpu_fits : Vcpu → Bool
vcpu_fits r =
    within r.v 1 max_v && (within r.guest 1 max_guest && (within r.core 0 max_core && (within r.period 1 max_period && within r.budget 1 r.period)))

-- A TEST of a line, and the refusal where it does not hold
pub record Test : Type 0 where
  pub refusal : Refusal
  pub holds : Bool

abbrev pub test : Refusal → Bool → Test
test r b = record { refusal = r; holds = b }

-- the refusal of the first test that does not hold
abbrev pub first_failed : List Test → Fault
first_failed [] = Ok tt
first_failed (x ∷ xs) = unless x.holds x.refusal (first_failed xs)

-- WHAT IS ASKED of a line that is allowed here and whose numbers are written as they should be: its tests 3 to 7, in the order of their numbers
unfoldable pub tests_of : Known → Kind → List ℕ → List Test
tests_of t PlanLine ns = []
tests_of t PolicyPO ns = []
tests_of t PolicyPN ns = []
tests_of t PolicyDO ns = []
tests_of t PolicyDN ns = []
-- `vcpu v guest core budget period`, v rising
tests_of t VcpuLine ns = test Range (vcpu_fits (vcpu_of ns)) ∷ test Order (ltb (last_v t.vcpus) (nth 0 ns)) ∷ []
-- `mutex m G`, m rising
tests_of t MutexG ns = test Range (within (nth 0 ns) 1 max_m) ∷ test Order (ltb (last_m t.mutexes) (nth 0 ns)) ∷ []
-- `mutex m L v`, m rising, v declared
tests_of t MutexL ns =
    test Range (within (nth 0 ns) 1 max_m && within (nth 1 ns) 1 max_v)
    ∷ test Order (ltb (last_m t.mutexes) (nth 0 ns))
    ∷ test Missing (has_vcpu t.vcpus (nth 1 ns))
    ∷ []
-- `open m guest`, pairs rising, m global, the guest has a VCPU declared
tests_of t OpenLine ns =
    test Range (within (nth 0 ns) 1 max_m && within (nth 1 ns) 1 max_guest)
    ∷ test Order (rises (last_open t.opens).m (last_open t.opens).guest (nth 0 ns) (nth 1 ns))
    ∷ test Missing (global t.mutexes (nth 0 ns) && has_guest t.vcpus (nth 1 ns))
    ∷ []
-- `guest g`, g rising, the guest has a VCPU declared
tests_of t GuestLine ns =
    test Range (within (nth 0 ns) 1 max_guest) ∷ test Order (ltb t.guest (nth 0 ns)) ∷ test Missing (has_guest t.vcpus (nth 0 ns)) ∷ []
-- `task v n period`, (v, n) rising within the section, v declared and this guest's; not the 65th
tests_of t TaskLine ns =
    test Range (within (nth 0 ns) 1 max_v && (within (nth 1 ns) 1 max_n && within (nth 2 ns) 1 max_period))
    ∷ test Order (rises t.v t.n (nth 0 ns) (nth 1 ns))
    ∷ test Missing (has_vcpu t.vcpus (nth 0 ns))
    ∷ test Outside (is_vcpu_of t.vcpus t.guest (nth 0 ns))
    ∷ test TooMany (ltb t.tasks max_tasks)
    ∷ []
-- `run t`
tests_of t RunLine ns = test Range (within (nth 0 ns) 0 max_length) ∷ []
-- `lock m t`, m declared, and local to this VCPU or a global one opened to this guest; not the ninth
tests_of t LockLine ns =
    test Range (within (nth 0 ns) 1 max_m && within (nth 1 ns) 1 max_length)
    ∷ test Missing (has_mutex t.mutexes (nth 0 ns))
    ∷ test Outside (reaches t.mutexes t.opens t.guest t.v (nth 0 ns))
    ∷ test TooMany (ltb t.locks max_locks)
    ∷ []
tests_of t EndLine ns = []
-- an event's line stands in no plan (`follows`), so nothing more is asked of it
tests_of t AskLine ns = []
tests_of t FreeLine ns = []
tests_of t UseLine ns = []
tests_of t TopLine ns = []
tests_of t ShowLine ns = []

-- WHAT IS WRONG with it: the first of its tests that does not hold, so the lowest number (LowestFault)
unfoldable pub rule : Known → Kind → List ℕ → Fault
rule t k ns = first_failed (tests_of t k ns)

-- the same, at another phase
abbrev pub moved : ℕ → Known → Known
moved q t = known q t.vcpus t.mutexes t.opens t.guest t.v t.n t.tasks t.locks

abbrev pub with_mutex : ℕ → Known → Mutex → Known
with_mutex q t x = known q t.vcpus (t.mutexes ++ (x ∷ [])) t.opens t.guest t.v t.n t.tasks t.locks

-- WHAT A LINE ADDS, with q the phase after it
unfoldable pub learn : ℕ → Known → Kind → List ℕ → Known
learn q t PlanLine ns = moved q t
learn q t PolicyPO ns = moved q t
learn q t PolicyPN ns = moved q t
learn q t PolicyDO ns = moved q t
learn q t PolicyDN ns = moved q t
learn q t VcpuLine ns = known q (t.vcpus ++ (vcpu_of ns ∷ [])) t.mutexes t.opens t.guest t.v t.n t.tasks t.locks
learn q t MutexG ns = with_mutex q t (record { m = nth 0 ns; owner = Global })
learn q t MutexL ns = with_mutex q t (record { m = nth 0 ns; owner = Local (nth 1 ns) })
learn q t OpenLine ns =
    known q t.vcpus t.mutexes (t.opens ++ (record { m = nth 0 ns; guest = nth 1 ns } ∷ [])) t.guest t.v t.n t.tasks t.locks
-- the order of tasks starts anew in each section
learn q t GuestLine ns = known q t.vcpus t.mutexes t.opens (nth 0 ns) 0 0 t.tasks t.locks
learn q t TaskLine ns = known q t.vcpus t.mutexes t.opens t.guest (nth 0 ns) (nth 1 ns) (t.tasks + 1) 0
learn q t RunLine ns = moved q t
learn q t LockLine ns = known q t.vcpus t.mutexes t.opens t.guest t.v t.n t.tasks (t.locks + 1)
learn q t EndLine ns = moved q t
learn q t AskLine ns = moved q t
learn q t FreeLine ns = moved q t
learn q t UseLine ns = moved q t
learn q t TopLine ns = moved q t
learn q t ShowLine ns = moved q t

abbrev pub learnt : Known → Item → Known
learnt t i = learn (phase i.kind) t i.kind i.nums
