-- Who gets a freed mutex.
use Rattle.std.specs.Prelude.{ℕ, ◌<◌, ◌≡◌, ◌⊎◌}
use Rattle.board_rules.specs.declared.Board.{Board}
use Rattle.board_rules.specs.declared.Next.{Next}
use Rattle.board_rules.specs.declared.Next.TheVariants.{Nobody, To}
use Rattle.board_rules.specs.Board.{wait_of}
use Rattle.board_keeps.specs.Fair.{InV, InN}

-- THE NEXT HOLDER OF A GLOBAL MUTEX

-- task (x, j) is lower than (w, k): of a lower VCPU, or of the same and with a lower n
abbrev pub Lower : ℕ → ℕ → ℕ → ℕ → Type 0
Lower x j w k = (x < w) ⊎ ((x ≡ w) × (j < k))

-- (w, k) waits for m, and every other waiter for m is lower
pub record HighestWaiter (b : Board) (m w k : ℕ) : Type 0 where
  pub v_in : InV w
  pub n_in : InN k
  pub waited : wait_of b w k ≡ m
  pub others_lower : (x j : ℕ) → InV x → InN j → wait_of b x j ≡ m → ((x ≡ w) × (j ≡ k) → ⊥) → Lower x j w k

pub data GlobalNext (b : Board) (m : ℕ) : Next → Type 0 where
  -- no task waits for m
  none_waits : ((x j : ℕ) → InV x → InN j → wait_of b x j ≡ m → ⊥) → GlobalNext b m Nobody
  -- (w, k) is the highest of those that do
  top_waiter : (w k : ℕ) → HighestWaiter b m w k → GlobalNext b m (To w k)
