-- Texts told one behind another: written where `on`, else only counted. Both count alike, so that size and text cannot differ.
use Rattle.std.specs.Prelude.{ℕ, ◌+◌, ◌≤◌, ◌≡◌, List, Bool, true, length}
use Rattle.text_told.specs.At.{told_at}

-- a count stays far below what a number of 64 bits can hold
abbrev pub most_bytes : ℕ
most_bytes = 1000000

-- x can be told behind n bytes: counted, and where `on` written into o
pub record Space (on : Bool) (x o : List ℕ) (n : ℕ) : Type 0 where
  pub counted : n + length x ≤ most_bytes
  pub written : on ≡ true → n + length x ≤ length o

-- x is told behind n bytes: r is the place behind it, and o has become p
pub record Told (on : Bool) (x o p : List ℕ) (n r : ℕ) : Type 0 where
  pub place : r ≡ n + length x
  pub buffer : p ≡ told_at on x o n
