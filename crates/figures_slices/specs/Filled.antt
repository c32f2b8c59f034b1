-- Answers as rows of three numbers, and slices that are filled with them from the front.
use Rattle.std.specs.Prelude.{ℕ, ◌*◌, ◌/◌, ◌%◌, ◌≤◌, ◌<◌, ◌≡◌, Bool, ◌&&◌, List, [], ◌∷◌, ◌++◌, ltb, length, drop}
use Rattle.std.specs.Prelude.{if◌then◌else◌}
use Rattle.laws.specs.Sums.{flat}
use Rattle.laws.specs.Rows.{rows}
use Rattle.search.specs.declared.Answer.{Answer}
use Rattle.search.specs.Search.{rounds}
use Rattle.search.specs.Row.{Row, row_in}
use Rattle.plan_tables.specs.Layout.{cell, lock_row, task_row, task_width}
use Rattle.figures.specs.System.{System}
use Rattle.figures.specs.declared.TaskAnswer.{TaskAnswer}
use Rattle.figures.specs.Answers.{wait_answer, ticks_of}
use Rattle.figures.specs.Figures.{is_section}
use Rattle.figures.specs.Kinds.{answer_kind, task_kind, task_ticks, task_rounds}

abbrev pub row_cells : Row → List ℕ
row_cells r = r.shift ∷ r.period ∷ r.cost ∷ []

abbrev pub three_of : ℕ → ℕ → ℕ → Row
three_of x y z = record { shift = x; period = y; cost = z }

-- an answer's kind, ticks and rounds
abbrev pub answer_row : Answer → Row
answer_row a = three_of (answer_kind a) (ticks_of a) (rounds a)

abbrev pub task_answer_row : TaskAnswer → Row
task_answer_row a = three_of (task_kind a) (task_ticks a) (task_rounds a)

-- lock j of task i of the table is a global section
unfoldable pub section_at : System → List ℕ → ℕ → ℕ → Bool
section_at s t i j = ltb j (cell t task_width i 4) && is_section s (lock_row t i j)

-- the numbers of place j of task i, zeros where no global section stands there
unfoldable pub place_row : System → List ℕ → ℕ → ℕ → Row
place_row s t i j = if section_at s t i j then answer_row (wait_answer s (task_row t i) (lock_row t i j)) else three_of 0 0 0

abbrev pub place_at : System → List ℕ → ℕ → Row
place_at s t k = place_row s t (k / 8) (k % 8)

-- xs is xs₀ with the rows of the first i of n things at its front
pub record Filled {A : Type 0} (f : A → Row) (thing : ℕ → A) (xs₀ : List ℕ) (n : ℕ) (xs : List ℕ) (i : ℕ) : Type 0 where
  pub within : i ≤ n
  pub same : length xs ≡ length xs₀
  pub is : xs ≡ flat (λ x. row_cells (f x)) (rows i thing) ++ drop (i * 3) xs₀
  pub at : (k : ℕ) → k < i → row_in xs k ≡ f (thing k)

-- wa has the answers of the waits, row by row
pub record Places (s : System) (t : List ℕ) (n : ℕ) (wa : List ℕ) : Type 0 where
  pub room : n * 3 ≤ length wa
  pub at : (k : ℕ) → k < n → row_in wa k ≡ place_at s t k
