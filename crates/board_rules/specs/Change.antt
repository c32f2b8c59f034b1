-- What a change of a board leaves.
use Rattle.std.specs.Prelude.{ℕ, ◌-◌, ◌<◌, ◌≡◌, Bool, false, get_or, set}
use Rattle.std.proofs.Common.{arith, get_or-set_other}
use Rattle.board_rules.specs.Names.{InV, InN, InM}
use Rattle.board_rules.specs.Board.{Board, seat, left_of, over_of, is_stopped, holder_of, wait_of, with_left, with_holder, with_wait}

module _ (b : Board) where
  pub left_else : (v l o w : ℕ) → InV v → InV w → (w ≡ v → ⊥) → left_of (with_left b v l o) w ≡ left_of b w
  left_else v l o w i j ne = get_or-set_other b.left (v - 1) (w - 1) l 0 (λ e. ne (omega arith))

  pub over_else : (v l o w : ℕ) → InV v → InV w → (w ≡ v → ⊥) → over_of (with_left b v l o) w ≡ over_of b w
  over_else v l o w i j ne = get_or-set_other b.over (v - 1) (w - 1) o 0 (λ e. ne (omega arith))

  pub stopped_else : (v : ℕ) (t : Bool) (w : ℕ) → InV v → InV w → (w ≡ v → ⊥) → get_or (set b.stopped (v - 1) t) (w - 1) false ≡ is_stopped b w
  stopped_else v t w i j ne = get_or-set_other b.stopped (v - 1) (w - 1) t false (λ e. ne (omega arith))

  pub holder_off : (m h k : ℕ) → 0 < m → 0 < k → (k ≡ m → ⊥) → holder_of (with_holder b m h) k ≡ holder_of b k
  holder_off m h k i j ne = get_or-set_other b.holder (m - 1) (k - 1) h 0 (λ e. ne (omega arith))

  pub holder_else : (m h k : ℕ) → InM m → InM k → (k ≡ m → ⊥) → holder_of (with_holder b m h) k ≡ holder_of b k
  holder_else m h k i j ne = holder_off m h k i.from j.from ne

  pub wait_else : (v n m x j : ℕ) → InV v → InN n → InV x → InN j → (seat x j ≡ seat v n → ⊥) → wait_of (with_wait b v n m) x j ≡ wait_of b x j
  wait_else v n m x j a c d e ne = get_or-set_other b.waits (seat v n - 1) (seat x j - 1) m 0 (λ q. ne (omega arith))
