-- The rows of the task table, (v, n) rising over the whole plan.
use Rattle.std.specs.Prelude.{ℕ, ◌<◌, ◌≤◌, ◌≡◌, List, get_or}
use Rattle.laws.specs.Rows.{rows}
use Rattle.plan_tables.specs.Layout.{task_row}
use Rattle.figures.specs.System.{System}
use Rattle.listing.specs.Listing.{rising}

-- the first n numbers of `order` are places of the task table ts, which has k rows, and the rows there are the plan's tasks as they rise
pub record Ordered (s : System) (ts order : List ℕ) (k n : ℕ) : Type 0 where
  pub few : n ≤ k
  pub within : (i : ℕ) → i < n → get_or order i 0 < k
  pub is : rows n (λ i. task_row ts (get_or order i 0)) ≡ rising s
