-- The judge that code keeps: numbers by place where the rules of `plan` keep rows of tables.
use Rattle.std.specs.Prelude.{ℕ, ◌+◌, ◌*◌, ◌-◌, List, Bool, true, cond, ◌&&◌, ◌||◌, eqb, leb, ltb, get_or, set, replicate, Ok}
use Rattle.plan.specs.Limits.{max_v, max_guest, max_m, max_n, max_period, max_length, max_tasks, max_locks}
use Rattle.plan.specs.declared.Refusal.TheVariants.{Range, Order, Missing, Outside, TooMany}
use Rattle.plan.specs.Refusals.{unless, Fault}
use Rattle.plan.specs.declared.Kind.{Kind}
use Rattle.plan.specs.declared.Kind.TheVariants.{PlanLine, PolicyPO, PolicyPN, PolicyDO, PolicyDN, VcpuLine, MutexG, MutexL, OpenLine, GuestLine, TaskLine, RunLine, LockLine, EndLine, AskLine, FreeLine, UseLine, TopLine, ShowLine}
use Rattle.plan.specs.Line.{Item, head_or, nums_of}
use Rattle.plan.specs.Rules.{phase, within, follows, nth, rises, vcpu_fits}
use Rattle.plan.specs.Fields.{field_of}
use Rattle.plan.specs.Reading.{Judge}
pub use Rattle.judge_coded.specs.declared.Seen.{Seen}

abbrev pub item : Kind → ℕ → ℕ → ℕ → ℕ → ℕ → Item
item k a b c d e = record { kind = k; nums = nums_of k a b c d e }

-- a number as a byte; 0 for one that is none
unfoldable pub byte : ℕ → ℕ
byte x = cond (ltb x 256) x 0

abbrev pub seen :
    ℕ → List ℕ → ℕ → List ℕ → List ℕ → ℕ → List ℕ → ℕ → ℕ → ℕ → ℕ → ℕ → ℕ → ℕ → Seen
seen q gs lv hs os lm ps om og g v n ts ls =
    record {
      phase = q;
      guests = gs;
      vcpu = lv;
      hosted = hs;
      owners = os;
      mutex = lm;
      opens = ps;
      shared = om;
      sharer = og;
      guest = g;
      v = v;
      n = n;
      tasks = ts;
      locks = ls;
    }

-- a place for each mutex and guest, 1 to their limits
abbrev pub openings : ℕ
openings = max_m * max_guest

-- nothing seen: a place for each number from 0 to its limit
abbrev pub start : Seen
start = seen 0 (replicate (max_v + 1) 0) 0 (replicate (max_guest + 1) 0) (replicate (max_m + 1) 0) 0 (replicate openings 0) 0 0 0 0 0 0 0

-- the owner of a global mutex, above every v; a local mutex has its v, an undeclared one 0
abbrev pub global : ℕ
global = max_v + 1

-- both in range, from 1 on
abbrev pub ranged : ℕ → ℕ → ℕ → ℕ → Bool
ranged x hi y top = within x 1 hi && within y 1 top

-- where the openings have m and guest g; past their end for what is none
unfoldable pub slot : ℕ → ℕ → ℕ
slot m g = cond (ranged m max_m g max_guest) ((m - 1) * max_guest + (g - 1)) openings

-- one more, up to the limit of tasks
unfoldable pub bump : ℕ → ℕ
bump n = cond (ltb n max_tasks) (n + 1) n

-- WHAT IS WRONG with a line of each kind that is allowed here and whose numbers are written as they should be
unfoldable pub vcpu_fault : Seen → ℕ → ℕ → ℕ → ℕ → ℕ → Fault
vcpu_fault t v g c b p = unless (vcpu_fits (record { v = v; guest = g; core = c; budget = b; period = p })) Range (unless (ltb t.vcpu v) Order (Ok tt))

-- a mutex of VCPU v, declared or not
unfoldable pub mutex_fault : Seen → ℕ → ℕ → Bool → Fault
mutex_fault t m v declared =
    unless (ranged m max_m v max_v) Range (unless (ltb t.mutex m) Order (unless declared Missing (Ok tt)))

unfoldable pub open_fault : Seen → ℕ → ℕ → Fault
open_fault t m g =
    unless (ranged m max_m g max_guest) Range
    (unless (rises t.shared t.sharer m g) Order
    (unless (eqb (get_or t.owners m 0) global && eqb (get_or t.hosted g 0) 1) Missing (Ok tt)))

unfoldable pub guest_fault : Seen → ℕ → Fault
guest_fault t g = unless (within g 1 max_guest) Range (unless (ltb t.guest g) Order (unless (eqb (get_or t.hosted g 0) 1) Missing (Ok tt)))

-- a task of VCPU v, by what is declared and how many there are
unfoldable pub host_fault : Seen → ℕ → Fault
host_fault t v =
    unless (leb 1 (get_or t.guests v 0)) Missing
    (unless (leb 1 (get_or t.guests v 0) && eqb (get_or t.guests v 0) t.guest) Outside (unless (ltb t.tasks max_tasks) TooMany (Ok tt)))

unfoldable pub task_fault : Seen → ℕ → ℕ → ℕ → Fault
task_fault t v n p = unless (within v 1 max_v && ranged n max_n p max_period) Range (unless (rises t.v t.n v n) Order (host_fault t v))

unfoldable pub run_fault : ℕ → Fault
run_fault x = unless (within x 0 max_length) Range (Ok tt)

-- may a task of VCPU v of guest g lock m, with the openings ps: is it local to v, or a global one opened to the guest?
abbrev pub reached_by : List ℕ → ℕ → ℕ → ℕ → ℕ → Bool
reached_by ps g v owner m = (within owner 1 max_v && eqb owner v) || (eqb owner global && eqb (get_or ps (slot m g) 0) 1)

-- the same of the section's last task
abbrev pub reached : Seen → ℕ → ℕ → Bool
reached t owner m = reached_by t.opens t.guest t.v owner m

unfoldable pub lock_fault : Seen → ℕ → ℕ → Fault
lock_fault t m x =
    unless (ranged m max_m x max_length) Range
    (unless (leb 1 (get_or t.owners m 0)) Missing
    (unless (reached t (get_or t.owners m 0) m) Outside (unless (ltb t.locks max_locks) TooMany (Ok tt))))

unfoldable pub ruled : Seen → Kind → List ℕ → Fault
ruled t PlanLine ns = Ok tt
ruled t PolicyPO ns = Ok tt
ruled t PolicyPN ns = Ok tt
ruled t PolicyDO ns = Ok tt
ruled t PolicyDN ns = Ok tt
ruled t VcpuLine ns = vcpu_fault t (nth 0 ns) (nth 1 ns) (nth 2 ns) (nth 3 ns) (nth 4 ns)
ruled t MutexG ns = mutex_fault t (nth 0 ns) 1 true
ruled t MutexL ns = mutex_fault t (nth 0 ns) (nth 1 ns) (leb 1 (get_or t.guests (nth 1 ns) 0))
ruled t OpenLine ns = open_fault t (nth 0 ns) (nth 1 ns)
ruled t GuestLine ns = guest_fault t (nth 0 ns)
ruled t TaskLine ns = task_fault t (nth 0 ns) (nth 1 ns) (nth 2 ns)
ruled t RunLine ns = run_fault (nth 0 ns)
ruled t LockLine ns = lock_fault t (nth 0 ns) (nth 1 ns)
ruled t EndLine ns = Ok tt
ruled t AskLine ns = Ok tt
ruled t FreeLine ns = Ok tt
ruled t UseLine ns = Ok tt
ruled t TopLine ns = Ok tt
ruled t ShowLine ns = Ok tt

-- WHAT A LINE ADDS, with q the phase after it
unfoldable pub after_vcpu : ℕ → Seen → ℕ → ℕ → Seen
after_vcpu q t v g =
    seen q (set t.guests v (byte g)) v (set t.hosted g 1) t.owners t.mutex t.opens t.shared t.sharer
    t.guest t.v t.n t.tasks t.locks

unfoldable pub after_mutex : ℕ → Seen → ℕ → ℕ → Seen
after_mutex q t m o =
    seen q t.guests t.vcpu t.hosted (set t.owners m (byte o)) m t.opens t.shared t.sharer
    t.guest t.v t.n t.tasks t.locks

unfoldable pub after_open : ℕ → Seen → ℕ → ℕ → Seen
after_open q t m g =
    seen q t.guests t.vcpu t.hosted t.owners t.mutex (set t.opens (slot m g) 1) m g
    t.guest t.v t.n t.tasks t.locks

-- the same tables, at another phase, guest and task
unfoldable pub placed : ℕ → Seen → ℕ → ℕ → ℕ → ℕ → ℕ → Seen
placed q t g v n ts ls =
    seen q t.guests t.vcpu t.hosted t.owners t.mutex t.opens t.shared t.sharer g v n ts ls

abbrev pub moved : ℕ → Seen → Seen
moved q t = placed q t t.guest t.v t.n t.tasks t.locks

unfoldable pub seen_by : ℕ → Seen → Kind → List ℕ → Seen
seen_by q t PlanLine ns = moved q t
seen_by q t PolicyPO ns = moved q t
seen_by q t PolicyPN ns = moved q t
seen_by q t PolicyDO ns = moved q t
seen_by q t PolicyDN ns = moved q t
seen_by q t VcpuLine ns = after_vcpu q t (nth 0 ns) (nth 1 ns)
seen_by q t MutexG ns = after_mutex q t (nth 0 ns) global
seen_by q t MutexL ns = after_mutex q t (nth 0 ns) (nth 1 ns)
seen_by q t OpenLine ns = after_open q t (nth 0 ns) (nth 1 ns)
seen_by q t GuestLine ns = placed q t (nth 0 ns) 0 0 t.tasks t.locks
seen_by q t TaskLine ns = placed q t t.guest (nth 0 ns) (nth 1 ns) (bump t.tasks) 0
seen_by q t RunLine ns = moved q t
seen_by q t LockLine ns = placed q t t.guest t.v t.n t.tasks (bump t.locks)
seen_by q t EndLine ns = moved q t
seen_by q t AskLine ns = moved q t
seen_by q t FreeLine ns = moved q t
seen_by q t UseLine ns = moved q t
seen_by q t TopLine ns = moved q t
seen_by q t ShowLine ns = moved q t

-- THE JUDGE
abbrev pub coded : Judge
coded = record {
  Seen = Seen;
  allowed = λ t k. follows t.phase k;
  judged = λ t i. ruled t i.kind i.nums;
  field = λ t i r. field_of (eqb (get_or t.owners (head_or i.nums) 0) global) i.kind i.nums r;
  next = λ t i. seen_by (phase i.kind) t i.kind i.nums;
  ready = λ t. eqb t.phase 10;
}
