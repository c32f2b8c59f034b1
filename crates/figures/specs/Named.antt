-- The rows of a plan by their names: a task by v and n, a lock by its place in the task.
use Rattle.std.specs.Prelude.{ℕ, ◌+◌, ◌-◌, ◌≡◌, List, ◌∷◌, ◌++◌, Bool, ◌&&◌, eqb, length, get_or}
use Rattle.laws.specs.Sums.{any, first}
use Rattle.plan.specs.declared.Lock.{Lock}
use Rattle.plan.specs.Plan.{Task}
pub use Rattle.plan.specs.Plan.{no_task, no_lock}
use Rattle.plan.specs.Rules.{within}
use Rattle.figures.specs.System.{System}
use Rattle.figures.specs.Figures.{is_section}

-- task (v, n) is in the plan
unfoldable pub has_task : System → ℕ → ℕ → Bool
has_task s v n = any (λ k. eqb k.v v && eqb k.n n) s.tasks

-- task (v, n), where there is one
unfoldable pub task_at : System → ℕ → ℕ → Task
task_at s v n = first (λ k. eqb k.v v && eqb k.n n) no_task s.tasks

-- "lock place in the task (all its locks counted, from 1)"
unfoldable pub lock_at : Task → ℕ → Lock
lock_at k i = get_or k.locks (i - 1) no_lock

-- l stands at place i of the locks ls: i counts the locks before it, and itself (so 0 is no place)
abbrev pub Placed : List Lock → ℕ → Lock → Type 0
Placed ls i l = (before : List Lock) × (after : List Lock) × (ls ≡ before ++ (l ∷ after)) × (i ≡ length before + 1)

-- at place i of task k stands a global section
unfoldable pub has_section : System → Task → ℕ → Bool
has_section s k i = within i 1 (length k.locks) && is_section s (lock_at k i)
