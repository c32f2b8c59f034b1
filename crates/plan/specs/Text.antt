-- The text of a plan: its lines in their order, each ended by LF.
use Rattle.std.specs.Prelude.{ℕ, List, [], ◌∷◌}
use Rattle.laws.specs.Bytes.{ended}
use Rattle.plan.specs.Limits.{lf}
use Rattle.plan.specs.Line.{Item, line_of, Kind, PlanLine, PolicyPO, PolicyPN, PolicyDO, PolicyDN, VcpuLine, MutexG, MutexL, OpenLine, GuestLine, TaskLine, RunLine, LockLine, EndLine}
use Rattle.plan.specs.Plan.{Policy, Periodic, Deferrable, OverrunChoice, WithOverrun, WithoutOverrun, Vcpu, Owner, Global, Local, Mutex, Open, Lock, Task, Section, Plan}

abbrev pub item : Kind → List ℕ → Item
item k ns = record { kind = k; nums = ns }

-- p is P (periodic server) or D (deferrable), o is O (overrun) or N (none)
abbrev pub policy_kind : Policy → OverrunChoice → Kind
policy_kind Periodic WithOverrun = PolicyPO
policy_kind Periodic WithoutOverrun = PolicyPN
policy_kind Deferrable WithOverrun = PolicyDO
policy_kind Deferrable WithoutOverrun = PolicyDN

abbrev pub vcpu_item : Vcpu → Item
vcpu_item r = item VcpuLine (r.v ∷ r.guest ∷ r.core ∷ r.budget ∷ r.period ∷ [])

abbrev pub owned_item : ℕ → Owner → Item
owned_item m Global = item MutexG (m ∷ [])
owned_item m (Local v) = item MutexL (m ∷ v ∷ [])

abbrev pub open_item : Open → Item
open_item r = item OpenLine (r.m ∷ r.guest ∷ [])

abbrev pub run_item : ℕ → Item
run_item t = item RunLine (t ∷ [])

-- each function writes its lines before the rest
unfoldable pub vcpu_items : List Vcpu → List Item → List Item
vcpu_items [] rest = rest
vcpu_items (r ∷ rs) rest = vcpu_item r ∷ vcpu_items rs rest

unfoldable pub mutex_items : List Mutex → List Item → List Item
mutex_items [] rest = rest
mutex_items (r ∷ rs) rest = owned_item r.m r.owner ∷ mutex_items rs rest

unfoldable pub open_items : List Open → List Item → List Item
open_items [] rest = rest
open_items (r ∷ rs) rest = open_item r ∷ open_items rs rest

unfoldable pub lock_items : List Lock → List Item → List Item
lock_items [] rest = rest
lock_items (r ∷ rs) rest = item LockLine (r.m ∷ r.ticks ∷ []) ∷ run_item r.after ∷ lock_items rs rest

unfoldable pub task_items : List Task → List Item → List Item
task_items [] rest = rest
task_items (r ∷ rs) rest = item TaskLine (r.v ∷ r.n ∷ r.period ∷ []) ∷ run_item r.first ∷ lock_items r.locks (task_items rs rest)

unfoldable pub section_items : List Section → List Item → List Item
section_items [] rest = rest
section_items (r ∷ rs) rest = item GuestLine (r.guest ∷ []) ∷ task_items r.tasks (section_items rs rest)

unfoldable pub items_of : Plan → List Item
items_of p =
    item PlanLine []
    ∷ item (policy_kind p.policy p.overrun) []
    ∷ vcpu_items p.vcpus (mutex_items p.mutexes (open_items p.opens (section_items p.sections (item EndLine [] ∷ []))))

unfoldable pub lines_of : List Item → List (List ℕ)
lines_of [] = []
lines_of (i ∷ is) = line_of i ∷ lines_of is

unfoldable pub text_of : List Item → List ℕ
text_of is = ended lf (lines_of is)

-- the bytes of a plan
abbrev pub text : Plan → List ℕ
text p = text_of (items_of p)
