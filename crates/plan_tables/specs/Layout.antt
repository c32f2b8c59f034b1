-- How lent rows of numbers hold a plan: the width of each table's row, what stands in its columns, and the rows read back.
use Rattle.std.specs.Prelude.{ℕ, zero, suc, ◌+◌, ◌-◌, ◌*◌, List, [], ◌∷◌, ◌++◌, length, drop, get_or}
use Rattle.laws.specs.Sums.{flat}
use Rattle.laws.specs.Rows.{rows}
use Rattle.plan.specs.Limits.{max_locks}
use Rattle.plan.specs.declared.Lock.{Lock}
use Rattle.plan.specs.Plan.{Vcpu, Owner, Global, Local, Mutex, Open, Task, Plan, tasks_of}
pub use Rattle.plan_tables.specs.declared.PlanRecord.{PlanRecord}

-- the numbers in a row of each table
abbrev pub vcpu_width : ℕ
vcpu_width = 5

abbrev pub mutex_width : ℕ
mutex_width = 2

abbrev pub open_width : ℕ
open_width = 2

abbrev pub lock_width : ℕ
lock_width = 3

-- where the locks of a task begin
abbrev pub first_lock : ℕ
first_lock = 5

-- 29: five numbers, and eight locks
abbrev pub task_width : ℕ
task_width = first_lock + max_locks * lock_width

-- THE CELLS OF A ROW
-- v guest core budget period
abbrev pub vcpu_cells : Vcpu → List ℕ
vcpu_cells r = r.v ∷ r.guest ∷ r.core ∷ r.budget ∷ r.period ∷ []

-- 0 for a global mutex, v for one that is local to v
abbrev pub owner_cell : Owner → ℕ
owner_cell Global = 0
owner_cell (Local v) = v

-- m owner
abbrev pub mutex_cells : Mutex → List ℕ
mutex_cells r = r.m ∷ owner_cell r.owner ∷ []

-- m guest
abbrev pub open_cells : Open → List ℕ
open_cells r = r.m ∷ r.guest ∷ []

-- m, the ticks under the lock, the run after it
abbrev pub lock_cells : Lock → List ℕ
lock_cells l = l.m ∷ l.ticks ∷ l.after ∷ []

unfoldable pub zeros : ℕ → List ℕ
zeros zero = []
zeros (suc n) = 0 ∷ zeros n

-- v n period first, how many locks, the locks, and zeros in the places of locks that the task does not have
abbrev pub task_cells : Task → List ℕ
task_cells k =
    k.v ∷ k.n ∷ k.period ∷ k.first ∷ length k.locks ∷ (flat lock_cells k.locks ++ zeros ((max_locks - length k.locks) * lock_width))

-- THE LENT TABLES, as lists of their numbers
pub record Tables : Type 0 where
  pub vcpus : List ℕ
  pub mutexes : List ℕ
  pub opens : List ℕ
  pub tasks : List ℕ

abbrev pub lent : List ℕ → List ℕ → List ℕ → List ℕ → Tables
lent vt mt ot ts = record { vcpus = vt; mutexes = mt; opens = ot; tasks = ts }

-- cells at the front of a table, the rest of it as lent
abbrev pub over : List ℕ → List ℕ → List ℕ
over cells t = cells ++ drop (length cells) t

-- the tables with a plan in them: "An accepted plan leaves table rows beyond its count untouched"
unfoldable pub filled : Plan → Tables → Tables
filled p t = record {
  vcpus = over (flat vcpu_cells p.vcpus) t.vcpus;
  mutexes = over (flat mutex_cells p.mutexes) t.mutexes;
  opens = over (flat open_cells p.opens) t.opens;
  tasks = over (flat task_cells (tasks_of p.sections)) t.tasks;
}

-- the record of a plan
unfoldable pub record_of : Plan → PlanRecord
record_of p = record {
  policy = p.policy;
  overrun = p.overrun;
  vcpus = length p.vcpus;
  mutexes = length p.mutexes;
  opens = length p.opens;
  tasks = length (tasks_of p.sections);
}

-- THE ROWS OF A TABLE, read back
abbrev pub cell : List ℕ → ℕ → ℕ → ℕ → ℕ
cell t w i j = get_or t (i * w + j) 0

unfoldable pub vcpu_row : List ℕ → ℕ → Vcpu
vcpu_row t i =
    record {
      v = cell t vcpu_width i 0;
      guest = cell t vcpu_width i 1;
      core = cell t vcpu_width i 2;
      budget = cell t vcpu_width i 3;
      period = cell t vcpu_width i 4;
    }

abbrev pub owner_of : ℕ → Owner
owner_of zero = Global
owner_of (suc v) = Local (suc v)

unfoldable pub mutex_row : List ℕ → ℕ → Mutex
mutex_row t i = record { m = cell t mutex_width i 0; owner = owner_of (cell t mutex_width i 1) }

unfoldable pub open_row : List ℕ → ℕ → Open
open_row t i = record { m = cell t open_width i 0; guest = cell t open_width i 1 }

unfoldable pub lock_row : List ℕ → ℕ → ℕ → Lock
lock_row t i j =
    record {
      m = cell t task_width i (first_lock + (j * lock_width + 0));
      ticks = cell t task_width i (first_lock + (j * lock_width + 1));
      after = cell t task_width i (first_lock + (j * lock_width + 2));
    }

unfoldable pub task_row : List ℕ → ℕ → Task
task_row t i =
    record {
      v = cell t task_width i 0;
      n = cell t task_width i 1;
      period = cell t task_width i 2;
      first = cell t task_width i 3;
      locks = rows (cell t task_width i 4) (lock_row t i);
    }
