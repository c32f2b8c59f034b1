-- A text written at the start of a buffer.
use Rattle.std.specs.Prelude.{ℕ, ◌≤◌, ◌≡◌, List, ◌++◌, length, take, drop}

-- r bytes are written: the text, and behind it the buffer as it was
pub record Wrote (text before after : List ℕ) (r : ℕ) : Type 0 where
  pub count : r ≡ length text
  pub bytes : after ≡ text ++ drop (length text) before

-- the text is t and then u
pub record Joins (text t u : List ℕ) : Type 0 where
  pub is : text ≡ t ++ u

-- r is the text's length, and at most b
pub record Sized (text : List ℕ) (b r : ℕ) : Type 0 where
  pub is : r ≡ length text
  pub small : r ≤ b

-- the first i bytes of w are copied over those of a buffer
pub record Copied (w before after : List ℕ) (i : ℕ) : Type 0 where
  pub within : i ≤ length w
  pub is : after ≡ take i w ++ drop i before
