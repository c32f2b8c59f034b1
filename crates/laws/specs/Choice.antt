-- Choices by a test.
use Rattle.std.specs.Prelude.{ℕ, Bool, true, false}

-- x where the test holds, else 0
unfoldable pub when : Bool → ℕ → ℕ
when true x = x
when false x = 0
