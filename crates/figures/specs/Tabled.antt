-- The system that lent tables hold, and what code needs of such tables.
use Rattle.std.specs.Prelude.{ℕ, ◌*◌, ◌<◌, ◌≤◌, ◌≡◌, List, true, length, get_or}
use Rattle.laws.specs.Rows.{rows}
use Rattle.plan.specs.Limits.{max_v, max_m, most_tasks, max_locks, max_period, max_length}
use Rattle.plan.specs.Lookup.{has_vcpu}
use Rattle.plan.specs.Valid.{VcpuValid}
use Rattle.plan_tables.specs.declared.PlanRecord.{PlanRecord}
use Rattle.plan_tables.specs.Layout.{vcpu_width, mutex_width, task_width, cell, vcpu_row, mutex_row, task_row}
use Rattle.figures.specs.System.{System}

-- the rows of the tables, as a system
unfoldable pub system_in : PlanRecord → List ℕ → List ℕ → List ℕ → System
system_in r vt mt tt =
    record {
      policy = r.policy;
      overrun = r.overrun;
      vcpus = rows r.vcpus (vcpu_row vt);
      mutexes = rows r.mutexes (mutex_row mt);
      tasks = rows r.tasks (task_row tt);
    }

-- tables of an accepted plan: few rows, within the slices, every number of them small, periods and budgets above 0, and every task's VCPU there
pub record Fit (r : PlanRecord) (vt mt tt : List ℕ) : Type 0 where
  pub vcpus_few : r.vcpus ≤ max_v
  pub mutexes_few : r.mutexes ≤ max_m
  pub tasks_few : r.tasks ≤ most_tasks
  pub vcpus_room : r.vcpus * vcpu_width ≤ length vt
  pub mutexes_room : r.mutexes * mutex_width ≤ length mt
  pub tasks_room : r.tasks * task_width ≤ length tt
  pub vcpu_small : (k : ℕ) → k < r.vcpus * vcpu_width → get_or vt k 0 ≤ max_period
  pub task_small : (k : ℕ) → k < r.tasks * task_width → get_or tt k 0 ≤ max_length
  pub vcpu_valid : (i : ℕ) → i < r.vcpus → VcpuValid (vcpu_row vt i)
  pub task_period : (i : ℕ) → i < r.tasks → 0 < cell tt task_width i 2
  pub task_locks : (i : ℕ) → i < r.tasks → cell tt task_width i 4 ≤ max_locks
  pub task_vcpu : (i : ℕ) → i < r.tasks → has_vcpu (rows r.vcpus (vcpu_row vt)) (cell tt task_width i 0) ≡ true
