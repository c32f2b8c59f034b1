-- The names v, n and m that a board has places for.
use Rattle.std.specs.Prelude.{ℕ, ◌*◌, ◌≤◌, ◌≡◌}
use Rattle.std.proofs.Common.{arith}
use Rattle.laws.specs.Range.{OneTo}
use Rattle.plan.specs.Limits.{max_v, max_m, most_n}
use Rattle.board_seats.specs.Seats.{seat}

abbrev pub InV : ℕ → Type 0
InV v = OneTo max_v v

abbrev pub InN : ℕ → Type 0
InN n = OneTo most_n n

abbrev pub InM : ℕ → Type 0
InM m = OneTo max_m m

pub in_v : {v : ℕ} → 1 ≤ v → v ≤ max_v → InV v
in_v a b = record { from = a; to = b }

pub in_m : {m : ℕ} → 1 ≤ m → m ≤ max_m → InM m
in_m a b = record { from = a; to = b }

-- a seat is one task's, and not 0
pub seat_one : (v n x j : ℕ) → InV v → InN n → InV x → InN j → seat v n ≡ seat x j → (v ≡ x) × (n ≡ j)
seat_one v n x j a b c d e = (omega arith, omega arith)

pub seat_some : (v n : ℕ) → InN n → seat v n ≡ 0 → ⊥
seat_some v n i e = omega arith

pub seat_to : (v n : ℕ) → InV v → InN n → seat v n ≤ max_v * most_n
seat_to v n i j = omega arith
