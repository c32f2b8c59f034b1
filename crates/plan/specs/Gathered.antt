-- The plan that lines say, gathered from the last line up: runs, locks and tasks wait for the line that they belong to.
-- `accepted_exactly` (Accepted) makes it needless to believe this file: a byte string is accepted with a plan exactly when the plan is valid and the bytes are its text.
use Rattle.std.specs.Prelude.{ℕ, List, [], ◌∷◌, cond, Option, Some, None}
use Rattle.laws.specs.Bytes.{is_nil}
use Rattle.plan.specs.Line.{Item, Kind, item_of, head_or, PlanLine, PolicyPO, PolicyPN, PolicyDO, PolicyDN, VcpuLine, MutexG, MutexL, OpenLine, GuestLine, TaskLine, RunLine, LockLine, EndLine, AskLine, FreeLine, UseLine, TopLine, ShowLine}
use Rattle.plan.specs.Plan.{Policy, Periodic, Deferrable, OverrunChoice, WithOverrun, WithoutOverrun, Vcpu, Global, Local, Mutex, Open, Lock, Task, Section, Plan}
use Rattle.plan.specs.Rules.{nth, vcpu_of}

-- what is gathered of the lines below
pub record Rest : Type 0 where
  pub policy : Policy
  pub overrun : OverrunChoice
  pub vcpus : List Vcpu
  pub mutexes : List Mutex
  pub opens : List Open
  pub runs : List ℕ
  pub locks : List Lock
  pub tasks : List Task
  pub sections : List Section

abbrev pub rest : Policy → OverrunChoice → List Vcpu → List Mutex → List Open → List ℕ → List Lock → List Task → List Section → Rest
rest p o vs ms os rs ls ts ss =
    record { policy = p; overrun = o; vcpus = vs; mutexes = ms; opens = os; runs = rs; locks = ls; tasks = ts; sections = ss }

abbrev pub with_policy : Policy → OverrunChoice → Rest → Rest
with_policy p o r = rest p o r.vcpus r.mutexes r.opens r.runs r.locks r.tasks r.sections

abbrev pub above_mutex : Mutex → Rest → Rest
above_mutex x r = rest r.policy r.overrun r.vcpus (x ∷ r.mutexes) r.opens r.runs r.locks r.tasks r.sections

-- a line above the rest
unfoldable pub line_above : Kind → List ℕ → Rest → Rest
line_above PlanLine ns r = r
line_above PolicyPO ns r = with_policy Periodic WithOverrun r
line_above PolicyPN ns r = with_policy Periodic WithoutOverrun r
line_above PolicyDO ns r = with_policy Deferrable WithOverrun r
line_above PolicyDN ns r = with_policy Deferrable WithoutOverrun r
line_above VcpuLine ns r = rest r.policy r.overrun (vcpu_of ns ∷ r.vcpus) r.mutexes r.opens r.runs r.locks r.tasks r.sections
line_above MutexG ns r = above_mutex (record { m = nth 0 ns; owner = Global }) r
line_above MutexL ns r = above_mutex (record { m = nth 0 ns; owner = Local (nth 1 ns) }) r
line_above OpenLine ns r =
    rest r.policy r.overrun r.vcpus r.mutexes (record { m = nth 0 ns; guest = nth 1 ns } ∷ r.opens) r.runs r.locks r.tasks r.sections
line_above GuestLine ns r =
    rest r.policy r.overrun r.vcpus r.mutexes r.opens r.runs r.locks [] (record { guest = nth 0 ns; tasks = r.tasks } ∷ r.sections)
line_above TaskLine ns r =
    rest r.policy r.overrun r.vcpus r.mutexes r.opens [] []
    (record { v = nth 0 ns; n = nth 1 ns; period = nth 2 ns; first = head_or r.runs; locks = r.locks } ∷ r.tasks)
    r.sections
line_above RunLine ns r = rest r.policy r.overrun r.vcpus r.mutexes r.opens (nth 0 ns ∷ []) r.locks r.tasks r.sections
line_above LockLine ns r =
    rest r.policy r.overrun r.vcpus r.mutexes r.opens []
    (record { m = nth 0 ns; ticks = nth 1 ns; after = head_or r.runs } ∷ r.locks) r.tasks r.sections
line_above EndLine ns r = r
line_above AskLine ns r = r
line_above FreeLine ns r = r
line_above UseLine ns r = r
line_above TopLine ns r = r
line_above ShowLine ns r = r

unfoldable pub rest_of : List Item → Rest
rest_of [] = rest Periodic WithOverrun [] [] [] [] [] [] []
rest_of (i ∷ is) = line_above i.kind i.nums (rest_of is)

abbrev pub plan_from : Rest → Plan
plan_from r =
    record { policy = r.policy; overrun = r.overrun; vcpus = r.vcpus; mutexes = r.mutexes; opens = r.opens; sections = r.sections }

unfoldable pub plan_of : List Item → Plan
plan_of is = plan_from (rest_of is)

abbrev pub push : Option Item → List Item → List Item
push None is = is
push (Some i) is = i ∷ is

-- the items that the lines say; the last piece is no line
unfoldable pub items_in : List (List ℕ) → List Item
items_in [] = []
items_in (l ∷ ls) = cond (is_nil ls) [] (push (item_of l) (items_in ls))
