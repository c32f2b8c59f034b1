-- Places of the task table, written one after the other.
use Rattle.std.specs.Prelude.{ℕ, ◌<◌, ◌≤◌, ◌≡◌, Bool, ◌&&◌, List, ◌++◌, eqb, length, get_or}
use Rattle.laws.specs.Sums.{only}
use Rattle.laws.specs.Range.{flat_to}
use Rattle.laws.specs.Rows.{rows}
use Rattle.plan.specs.Limits.{max_n, most_tasks}
use Rattle.plan.specs.Plan.{Task}
use Rattle.plan_tables.specs.Layout.{task_row}
use Rattle.figures.specs.System.{System}

-- task k is task (v, n)
abbrev pub is_task : ℕ → ℕ → Task → Bool
is_task v n k = eqb k.v v && eqb k.n n

-- the tasks (v, n) of a plan
unfoldable pub named : System → ℕ → ℕ → List Task
named s v n = only (is_task v n) s.tasks

-- the tasks of VCPU v, n rising
unfoldable pub of_vcpu : System → ℕ → List Task
of_vcpu s v = flat_to max_n (named s v)

-- the rows at the first k places of `order`
unfoldable pub tasks_at : List ℕ → List ℕ → ℕ → List Task
tasks_at ts order k = rows k (λ i. task_row ts (get_or order i 0))

-- there is room for every task, and the first k numbers of `order` are places of a table of t rows
pub record Placed (t : ℕ) (order : List ℕ) (k : ℕ) : Type 0 where
  pub long : most_tasks ≤ length order
  pub within : (i : ℕ) → i < k → get_or order i 0 < t

-- `more` was added to the tasks at the places that were there before
pub record Added (ts : List ℕ) (t : ℕ) (before more : List Task) (order : List ℕ) (k : ℕ) : Type 0 where
  pub placed : Placed t order k
  pub is : tasks_at ts order k ≡ before ++ more

-- a loop of n rounds, after i of them: `grown i` was added to the tasks at the k places that were there before
pub record Growing (ts : List ℕ) (t : ℕ) (before : List ℕ) (k : ℕ) (grown : ℕ → List Task) (n : ℕ) (order : List ℕ) (e i : ℕ) : Type 0 where
  pub rounds : i ≤ n
  pub added : Added ts t (tasks_at ts before k) (grown i) order e
