-- What the judge asks of the rows of tasks, row by row: its tests of their lines (specs/Coded of `judge_coded`), from what it has seen before the first of them.
-- That a number has few digits is not asked: each is in its range.
use Rattle.std.specs.Prelude.{ℕ, ◌+◌, ◌*◌, ◌-◌, List, Bool, cond, ◌&&◌, ◌||◌, not, eqb, leb, ltb, get_or}
use Rattle.laws.specs.Sums.{all}
use Rattle.laws.specs.Rows.{rows}
use Rattle.plan.specs.Limits.{max_v, max_guest, max_m, max_n, max_period, max_length}
use Rattle.plan.specs.Rules.{within, rises}
use Rattle.plan.specs.Plan.{Vcpu}
use Rattle.judge_coded.specs.Coded.{ranged, reached_by}
use Rattle.plan_tables.specs.Layout.{task_width, lock_width, first_lock, cell}
use Rattle.given_tidy.specs.Hosts.{host_of, begins, last_at}

-- `run a`
abbrev pub run_clear : ℕ → Bool
run_clear a = within a 0 max_length

-- `lock m x` and `run a` of a task of VCPU v of guest g, with the owners os and the openings ps
unfoldable pub lock_clear : List ℕ → List ℕ → ℕ → ℕ → ℕ → ℕ → ℕ → Bool
lock_clear os ps g v m x a =
    (ranged m max_m x max_length && (leb 1 (get_or os m 0) && reached_by ps g v (get_or os m 0) m)) && run_clear a

-- `guest g` after a section of guest f, 0 before the first
unfoldable pub guest_clear : List ℕ → ℕ → ℕ → Bool
guest_clear hs f g = within g 1 max_guest && (ltb f g && eqb (get_or hs g 0) 1)

-- `task v n p` and `run a` in a section of guest g after task (w, k), both 0 before the section's first
unfoldable pub head_clear : List ℕ → ℕ → ℕ → ℕ → ℕ → ℕ → ℕ → ℕ → Bool
head_clear gs g w k v n p a =
    ((within v 1 max_v && ranged n max_n p max_period) && (rises w k v n && (leb 1 (get_or gs v 0) && eqb (get_or gs v 0) g))) && run_clear a

-- ROWS: lock j of task i, of VCPU v of guest g
unfoldable pub lock_at : List ℕ → List ℕ → List ℕ → ℕ → ℕ → ℕ → ℕ → Bool
lock_at os ps t g v i j =
    lock_clear os ps g v (cell t task_width i (first_lock + (j * lock_width + 0))) (cell t task_width i (first_lock + (j * lock_width + 1)))
    (cell t task_width i (first_lock + (j * lock_width + 2)))

-- the first two lines of task i of guest g, which begins a section or does not
unfoldable pub head_at : List ℕ → List ℕ → Bool → ℕ → ℕ → Bool
head_at gs t on g i =
    head_clear gs g (cond on 0 (cell t task_width (i - 1) 0)) (cond on 0 (cell t task_width (i - 1) 1)) (cell t task_width i 0) (cell t task_width i 1)
    (cell t task_width i 2) (cell t task_width i 3)

-- WITH WHAT IS SEEN before the first task: by v the guests gs, the guests hs that have a VCPU, by m the owners os, the openings ps
module _ (gs hs os ps : List ℕ) (t : List ℕ) where
  -- the lines of task i of guest g: the guest's where it begins a section, after a section of guest f; its own first two; its locks
  unfoldable pub task_clear : Bool → ℕ → ℕ → ℕ → Bool
  task_clear on f g i =
      (not on || guest_clear hs f g) && (head_at gs t on g i && all (lock_at os ps t g (cell t task_width i 0) i) (rows (cell t task_width i 4) (λ j. j)))

  module _ (vs : List Vcpu) where
    abbrev pub task_at : ℕ → Bool
    task_at i = task_clear (begins vs t i) (last_at vs t i) (host_of vs t i) i

    -- the first m tasks
    unfoldable pub tasks_clear : ℕ → Bool
    tasks_clear m = all task_at (rows m (λ i. i))
