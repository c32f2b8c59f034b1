-- The ticks that jobs have done, a number for each seat.
use Rattle.std.specs.Prelude.{ℕ, ◌+◌, ◌-◌, ◌*◌, ◌≡◌, List, length, get_or, set}
use Rattle.std.proofs.Common.{ap, ◌∙◌, arith, get_or-set_same, get_or-set_other}
use Rattle.laws.specs.Range.{list_to}
use Rattle.laws.specs.RangeLaws.{list_length}
use Rattle.plan.specs.Limits.{max_v, most_n}
use Rattle.board_rules.specs.Board.{seat}
use Rattle.board_keeps.specs.Fair.{InV, InN}
use Rattle.board_keeps.specs.Moves.{WaitsBut}
use Rattle.board_viewcells.specs.PartLaws.{name_at, flat_length, flat_at}
use Rattle.clock_rules.specs.Clock.{done_of, by_seat}

-- the number of a seat
pub by_seat_law : (f : ℕ → ℕ → ℕ) (v n : ℕ) → InV v → InN n → done_of (by_seat f) v n ≡ f v n
by_seat_law f v n i j =
    let e : seat v n - 1 ≡ (v - 1) * most_n + (n - 1) = omega arith in
    ap (λ k. get_or (by_seat f) k 0) e
    ∙ flat_at most_n (λ x. list_to most_n (λ y. f x y)) (λ x. list_length most_n (λ y. f x y)) max_v v (n - 1) i.from i.to (omega arith)
    ∙ name_at most_n n (λ y. f v y) j

-- there is one for each seat
pub seats_long : (f : ℕ → ℕ → ℕ) → length (by_seat f) ≡ max_v * most_n
seats_long f = flat_length most_n (λ x. list_to most_n (λ y. f x y)) (λ x. list_length most_n (λ y. f x y)) max_v

-- one tick more of (v, n), and of no other
module _ (d : List ℕ) (v n x : ℕ) (i : InV v) (j : InN n) where
  -- its own number
  pub done_new : length d ≡ max_v * most_n → done_of (set d (seat v n - 1) x) v n ≡ x
  done_new e = get_or-set_same d (seat v n - 1) x 0 (omega arith)

  -- every other
  pub done_else : WaitsBut v n (done_of (set d (seat v n - 1) x)) (done_of d)
  done_else w k a c ne = get_or-set_other d (seat v n - 1) (seat w k - 1) x 0 (λ e. ne (omega arith))
