-- Answers told one behind another: written where `on`, else only counted.
use Rattle.std.specs.Prelude.{ℕ, ◌+◌, ◌≤◌, ◌≡◌, Bool, true, false, List, ◌++◌, length, take, drop}
use Rattle.std.specs.Prelude.{if◌then◌else◌}
use Rattle.text_letters.specs.Wrote.{Wrote}
use Rattle.board_rules.specs.declared.BoardAnswer.{BoardAnswer}
use Rattle.board_rules.specs.declared.BoardAnswer.TheVariants.{Granted, Waits, Freed, Left, Shows, Refused}

-- what a text t leaves of a buffer o: t and behind it o as it was, or o itself
unfoldable pub told_into : Bool → List ℕ → List ℕ → List ℕ
told_into on t o = if on then t ++ drop (length t) o else o

-- an answer that is no refusal
abbrev pub moving : BoardAnswer → Bool
moving Granted = true
moving Waits = true
moving (Freed w) = true
moving (Left b o) = true
moving (Shows t v) = true
moving (Refused r) = false

-- t can be told behind n bytes: to be written, o has room for it; to be counted, n is at most 4,000,000
pub record Space (on : Bool) (t o : List ℕ) (n : ℕ) : Type 0 where
  pub written : on ≡ true → n + length t ≤ length o
  pub counted : on ≡ false → n ≤ 4000000

-- t is counted: n bytes and those of t, which are few, are r, and the buffer is as it was
pub record Counts (t o p : List ℕ) (n r : ℕ) : Type 0 where
  pub is : r ≡ n + length t
  pub small : r ≤ n + 60
  pub same : p ≡ o

-- t is told behind n bytes: written behind the first n of o, or counted
pub record Adds (on : Bool) (t o p : List ℕ) (n r : ℕ) : Type 0 where
  pub written : on ≡ true → Wrote (take n o ++ t) o p r
  pub counted : on ≡ false → Counts t o p n r
