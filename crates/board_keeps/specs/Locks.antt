-- The conditions on who holds and who waits, as facts: H m is the seat of the holder of m, W v n the mutex that (v, n) waits for.
use Rattle.std.specs.Prelude.{ℕ, ◌*◌, ◌≤◌, ◌≡◌, true, false}
use Rattle.plan.specs.Limits.{max_v, most_n}
use Rattle.board_rules.specs.Facts.{Facts}
use Rattle.board_rules.specs.Board.{seat}
use Rattle.board_keeps.specs.Fair.{InV, InN, InM}

-- task (v, n) fails the local test: n is not above the ceiling of a local mutex of v held by another
pub record Barred (F : Facts) (H : ℕ → ℕ) (v n : ℕ) : Type 0 where
  pub by : ℕ
  pub by_in : InM by
  pub is_local_law : F.local_to v by ≡ true
  pub held : H by ≡ 0 → ⊥
  pub by_other : H by ≡ seat v n → ⊥
  pub ceiling : n ≤ F.ceiling by

-- a task holds one mutex, one it lists, and waits for none meanwhile; it waits for one that it lists
pub record Holding (F : Facts) (H : ℕ → ℕ) (W : ℕ → ℕ → ℕ) : Type 0 where
  pub seat_in : (m : ℕ) → InM m → H m ≤ max_v * most_n
  pub held_listed : (v n m : ℕ) → InV v → InN n → InM m → H m ≡ seat v n → F.lists v n m ≡ true
  pub held_alone : (v n m k : ℕ) → InV v → InN n → InM m → InM k → H m ≡ seat v n → H k ≡ seat v n → k ≡ m
  pub holder_idle : (v n m : ℕ) → InV v → InN n → InM m → H m ≡ seat v n → W v n ≡ 0
  pub wait_listed : (v n : ℕ) → InV v → InN n → (W v n ≡ 0 → ⊥) → F.lists v n (W v n) ≡ true

-- a global waiter's mutex is held; a local waiter fails the test
pub record Waiting (F : Facts) (H : ℕ → ℕ) (W : ℕ → ℕ → ℕ) : Type 0 where
  pub for_global : (v n : ℕ) → InV v → InN n → (W v n ≡ 0 → ⊥) → F.global (W v n) ≡ true → H (W v n) ≡ 0 → ⊥
  pub for_local : (v n : ℕ) → InV v → InN n → (W v n ≡ 0 → ⊥) → F.global (W v n) ≡ false → Barred F H v n
