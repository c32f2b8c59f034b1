-- The tests for 9 that judge no item, as code makes them.
use Rattle.std.specs.Prelude.{ℕ, ◌*◌, ◌≤◌, List, Bool, ◌&&◌, leb}
use Rattle.laws.specs.Sums.{all}
use Rattle.laws.specs.Rows.{rows}
use Rattle.plan.specs.Limits.{max_v, max_m, max_guest, most_tasks, max_locks}
use Rattle.plan_tables.specs.Layout.{task_width, cell}
use Rattle.plan_tables.specs.declared.PlanRecord.{PlanRecord}
use Rattle.plan_tables.specs.Given.{zero_rest}

-- no table of a plan has more rows: openings, a pair of mutex and guest each
abbrev pub most_rows : ℕ
most_rows = max_m * max_guest

-- no more rows than a plan can have, and no more tasks than there are places for
unfoldable pub few : PlanRecord → Bool
few r = leb r.vcpus max_v && (leb r.mutexes max_m && (leb r.opens most_rows && leb r.tasks most_tasks))

-- the same as a fact
pub record Few (r : PlanRecord) : Type 0 where
  pub vcpus : r.vcpus ≤ max_v
  pub mutexes : r.mutexes ≤ max_m
  pub opens : r.opens ≤ most_rows
  pub tasks : r.tasks ≤ most_tasks

-- task i has at most 8 locks, and zeros in the places of those that it does not have
unfoldable pub tidy : List ℕ → ℕ → Bool
tidy t i = leb (cell t task_width i 4) max_locks && zero_rest t i

unfoldable pub all_tidy : List ℕ → ℕ → Bool
all_tidy t n = all (tidy t) (rows n (λ i. i))
