-- Texts of rows, written one behind the other at the start of a buffer.
use Rattle.std.specs.Prelude.{ℕ, ◌≤◌, ◌≡◌, List, length}
use Rattle.laws.specs.Sums.{flat}
use Rattle.laws.specs.Rows.{rows}
use Rattle.text_letters.specs.Wrote.{Wrote}

-- the texts of the first i of n rows are written, and all n fit
pub record Filled {A : Type 0} (f : A → List ℕ) (row : ℕ → A) (n : ℕ) (before after : List ℕ) (i at : ℕ) : Type 0 where
  pub within : i ≤ n
  pub room : length (flat f (rows n row)) ≤ length before
  pub same : length after ≡ length before
  pub wrote : Wrote (flat f (rows i row)) before after at
