-- The lines of the tables whose rows have one each, those of a task, and a loop over rows.
use Rattle.std.specs.Prelude.{ℕ, ◌≤◌, Bool, List}
use Rattle.plan.specs.Line.{Item}
use Rattle.plan.specs.Text.{text_of}
use Rattle.plan_tables.specs.Layout.{task_width, cell}
use Rattle.given_test.specs.Feed.{lined, vcpu_lines, mutex_lines, open_lines, lock_lines, guest_line, head_lines}
use Rattle.text_told.specs.Told.{Told}
pub use Rattle.write_rows.specs.declared.Rows.{Rows}
pub use Rattle.write_rows.specs.declared.Rows.TheVariants.{Vcpus, Mutexes, Opens}

abbrev pub row_lines : Rows → List ℕ → ℕ → List Item
row_lines Vcpus = vcpu_lines
row_lines Mutexes = mutex_lines
row_lines Opens = open_lines

-- the lines of task i of guest g, after a guest's where it begins a section
abbrev pub task_told : Bool → ℕ → List ℕ → ℕ → List Item
task_told b g t i = guest_line b g (head_lines t i (lined (cell t task_width i 4) (lock_lines t i)))

-- the lines of the first i of c rows are told
pub record ToldRows (on : Bool) (f : ℕ → List Item) (c : ℕ) (o p : List ℕ) (n k i : ℕ) : Type 0 where
  pub within : i ≤ c
  pub told : Told on (text_of (lined i f)) o p n k
