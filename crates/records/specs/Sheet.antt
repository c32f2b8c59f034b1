-- A lent slice of task records as rows of numbers, and the way back.
use Rattle.std.specs.Prelude.{ℕ, ◌*◌, List, ◌∷◌, ◌++◌, take, drop, get_or, replicate}
use Rattle.laws.specs.Sums.{flat}
use Rattle.laws.specs.Rows.{rows}
use Rattle.plan.specs.Limits.{max_locks, most_tasks}
use Rattle.plan.specs.Plan.{no_lock}
use Rattle.plan_tables.specs.Layout.{Tables, lent, task_width, lock_cells, cell, lock_row}
pub use Rattle.records.specs.declared.Task.{Task}

-- a blank record
abbrev pub blank_task : Task
blank_task = record { v = 0; n = 0; period = 0; first = 0; count = 0; locks = replicate max_locks no_lock }

-- THE NUMBERS OF A RECORD: v, n, period, first, count, then the cells of each of the eight locks
-- the cells of its first j locks
unfoldable pub locks_to : Task → ℕ → List ℕ
locks_to k j = flat lock_cells (rows j (λ i. get_or k.locks i no_lock))

-- up to its first j locks
abbrev pub nums_to : Task → ℕ → List ℕ
nums_to k j = k.v ∷ k.n ∷ k.period ∷ k.first ∷ k.count ∷ locks_to k j

unfoldable pub task_nums : Task → List ℕ
task_nums k = nums_to k max_locks

-- the rows of a slice of records
unfoldable pub sheet_rows : List Task → List ℕ
sheet_rows ks = flat task_nums ks

-- its first n records
unfoldable pub cut_to : ℕ → List Task → List Task
cut_to n ks = take n ks

-- lent tables whose tasks are a slice of records
abbrev pub tables_of : List ℕ → List ℕ → List ℕ → List Task → Tables
tables_of vt mt ot ks = lent vt mt ot (sheet_rows ks)

-- room for the numbers of as many records as there are places for
unfoldable pub no_rows : List ℕ
no_rows = replicate (most_tasks * task_width) 0

-- THE WAY BACK: the record of row i has all eight locks and their count; the plan's task in that row (`task_row`) has as many of them as the count says
unfoldable pub task_of : List ℕ → ℕ → Task
task_of t i =
    record {
      v = cell t task_width i 0;
      n = cell t task_width i 1;
      period = cell t task_width i 2;
      first = cell t task_width i 3;
      count = cell t task_width i 4;
      locks = rows max_locks (lock_row t i);
    }

-- the first n rows of a number table as records, over the records that were lent
unfoldable pub saved : List Task → List ℕ → ℕ → List Task
saved ks t n = rows n (task_of t) ++ drop n ks
