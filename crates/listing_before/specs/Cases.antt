-- Three plans worked through by both tests of ceilings, by hand in tests/plans/ARITHMETIC.md (ceiling-equal-to-the-task, ceiling-one-less-than-the-task, ceiling-of-the-own-mutex): one VCPU with every tick of its core, under D N.
use Rattle.std.specs.Prelude.{ℕ, ◌≡◌, refl, List, [], ◌∷◌}
use Rattle.laws.specs.Choice.{when}
use Rattle.laws.specs.Sums.{up, sum, greatest, any, first}
use Rattle.search.specs.declared.Answer.TheVariants.{Fits}
use Rattle.search.specs.Search.{solve, recur}
use Rattle.plan.specs.declared.Policy.TheVariants.{Deferrable}
use Rattle.plan.specs.declared.OverrunChoice.TheVariants.{WithoutOverrun}
use Rattle.plan.specs.declared.Lock.{Lock}
use Rattle.plan.specs.Plan.{Mutex, Local, Task}
use Rattle.plan.specs.Lookup.{global, local_to}
use Rattle.figures.specs.System.{System}
use Rattle.figures.specs.Figures.{vcpu_at, longest_global, global_count, ceiling, longest_local, local_blocking, lengths, task_demand}
use Rattle.figures.specs.declared.TaskAnswer.{TaskAnswer}
use Rattle.figures.specs.declared.TaskAnswer.TheVariants.{Searched}
use Rattle.figures.specs.Answers.{remote_waits, lacks_wait, is_held, task_answer}
use Rattle.listing_before.specs.Former.{longest_local_by, local_blocking_by, task_demand_by, task_answer_by, former_local_blocking, former_answer}

-- a plan of tasks on VCPU 1 with local mutexes 1 and 2
abbrev local : ℕ → Mutex
local m = record { m = m; owner = Local 1 }

abbrev plan : List Task → System
plan ks = record { policy = Deferrable; overrun = WithoutOverrun; vcpus = record { v = 1; guest = 1; core = 0; budget = 10; period = 10 } ∷ []; mutexes = local 1 ∷ local 2 ∷ []; tasks = ks }

-- task (1, n) of period 50: a run, then at most one section and no run after it
abbrev runs : ℕ → ℕ → List Lock → Task
runs n t ls = record { v = 1; n = n; period = 50; first = t; locks = ls }

abbrev lock : ℕ → ℕ → List Lock
lock m t = record { m = m; ticks = t; after = 0 } ∷ []

pub record Case : Type 0 where
  -- of mutexes 1 and 2
  pub ceilings : List ℕ
  -- of each task: local blocking and answer, now and before
  pub blocked : List ℕ
  pub tasks : List TaskAnswer
  pub blocked_before : List ℕ
  pub tasks_before : List TaskAnswer

abbrev each : {A : Type 0} → (Task → A) → List Task → List A
each f [] = []
each f (k ∷ ks) = f k ∷ each f ks

abbrev worked : List Task → Case
worked ks = record {
  ceilings = ceiling (plan ks) 1 ∷ ceiling (plan ks) 2 ∷ [];
  blocked = each (local_blocking (plan ks)) ks;
  tasks = each (task_answer (plan ks)) ks;
  blocked_before = each (former_local_blocking (plan ks)) ks;
  tasks_before = each (former_answer (plan ks)) ks;
}

abbrev fits : ℕ → ℕ → TaskAnswer
fits w n = Searched (Fits w n)

pub record Cases : Type 0 where
  -- (1, 1) and (1, 2) lock mutex 1: its ceiling is 2
  pub equal : Case
  -- with (1, 3), which locks nothing
  pub one_less_law : Case
  -- (1, 1) locks mutex 2 and (1, 2) mutex 1
  pub own_mutex : Case

pub ceiling_cases :
    ◌≡◌ {A = Cases}
    (record {
      equal = worked (runs 1 1 (lock 1 4) ∷ runs 2 2 (lock 1 1) ∷ []);
      one_less_law = worked (runs 1 1 (lock 1 4) ∷ runs 2 2 (lock 1 1) ∷ runs 3 3 [] ∷ []);
      own_mutex = worked (runs 1 1 (lock 2 4) ∷ runs 2 2 (lock 1 4) ∷ []);
    })
    (record {
      equal = record {
        ceilings = 2 ∷ 0 ∷ [];
        blocked = 0 ∷ 4 ∷ [];
        tasks = fits 8 2 ∷ fits 7 2 ∷ [];
        blocked_before = 0 ∷ 0 ∷ [];
        tasks_before = fits 8 2 ∷ fits 3 1 ∷ [];
      };
      one_less_law = record {
        ceilings = 2 ∷ 0 ∷ [];
        blocked = 0 ∷ 4 ∷ 0 ∷ [];
        tasks = fits 11 2 ∷ fits 10 2 ∷ fits 3 1 ∷ [];
        blocked_before = 0 ∷ 0 ∷ 0 ∷ [];
        tasks_before = fits 11 2 ∷ fits 6 2 ∷ fits 3 1 ∷ [];
      };
      own_mutex = record {
        ceilings = 2 ∷ 1 ∷ [];
        blocked = 0 ∷ 0 ∷ [];
        tasks = fits 11 2 ∷ fits 6 1 ∷ [];
        blocked_before = 0 ∷ 0 ∷ [];
        tasks_before = fits 11 2 ∷ fits 6 1 ∷ [];
      };
    })
unfolding when up sum greatest any first solve recur global local_to vcpu_at longest_global global_count ceiling longest_local local_blocking lengths task_demand remote_waits lacks_wait is_held task_answer longest_local_by local_blocking_by task_demand_by task_answer_by former_local_blocking former_answer
ceiling_cases = refl
