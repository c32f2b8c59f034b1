-- The sheets of a view, task row by task row: each lock of each row sets one number.
use Rattle.std.specs.Prelude.{ℕ, ◌+◌, ◌-◌, ◌*◌, ◌<◌, ◌≤◌, ◌≡◌, Bool, false, ◌&&◌, List, [], ◌∷◌, ltb, length, get_or, set}
use Rattle.std.specs.Prelude.{if◌then◌else◌}
use Rattle.laws.specs.Choice.{when}
use Rattle.plan.specs.Limits.{max_v, max_m, most_n}
use Rattle.plan.specs.Plan.{Task}
use Rattle.figures.specs.System.{System}
use Rattle.board_rules.specs.View.{at_lists, view_length, is_v, is_n, is_m}
use Rattle.board_rules.specs.Board.{seat}
use Rattle.board_viewcells.specs.ViewOf.{bit, view_of}

-- the numbers before the sheets are the view's, and number j of the sheets is 1 just where q holds of j
pub record Marked (s : System) (q : ℕ → Bool) (w : List ℕ) : Type 0 where
  pub room : view_length ≤ length w
  pub front : (j : ℕ) → j < at_lists → get_or w j 0 ≡ get_or (view_of s) j 0
  pub at : (j : ℕ) → j < max_v * most_n * max_m → get_or w (at_lists + j) 0 ≡ bit (q j)

-- no number of the sheets is set
abbrev pub Blank : System → List ℕ → Type 0
Blank s w = Marked s (λ j. false) w

-- number k of such a list
unfoldable pub blank_at : System → ℕ → ℕ
blank_at s k = when (ltb k at_lists) (get_or (view_of s) k 0)

-- what each row does to w, one after the other
unfoldable pub in_turn : {A B : Type 0} → (A → B → B) → List A → B → B
in_turn f [] w = w
in_turn f (x ∷ xs) w = in_turn f xs (f x w)

-- the place in the view of m in the sheet of (v, n)
abbrev pub place_of : ℕ → ℕ → ℕ → ℕ
place_of v n m = at_lists + ((seat v n - 1) * max_m + (m - 1))

-- the sheet of task (v, n) locks m; a name out of range has no number
unfoldable pub marked : ℕ → ℕ → ℕ → List ℕ → List ℕ
marked v n m w = if (is_v v && is_n n) && is_m m then set w (place_of v n m) 1 else w

-- each lock of a task
unfoldable pub marked_by : Task → List ℕ → List ℕ
marked_by k w = in_turn (λ l. marked k.v k.n l.m) k.locks w
