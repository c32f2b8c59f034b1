-- What a change of a board changes.
use Rattle.std.specs.Prelude.{ℕ, ◌-◌, ◌≡◌, Bool, false, get_or, set}
use Rattle.std.proofs.Common.{arith, get_or-set_same}
use Rattle.board_rules.specs.Names.{InV, InN, InM}
use Rattle.board_rules.specs.declared.Board.{Board}
use Rattle.board_rules.specs.Board.{seat, left_of, over_of, holder_of, wait_of, with_left, with_holder, with_wait}
use Rattle.board_keeps.specs.Shaped.{Shaped}

module _ {b : Board} (s : Shaped b) where
  pub left_new : (v l o : ℕ) → InV v → left_of (with_left b v l o) v ≡ l
  left_new v l o i = get_or-set_same b.left (v - 1) l 0 (let e = s.left_long in omega arith)

  pub over_new : (v l o : ℕ) → InV v → over_of (with_left b v l o) v ≡ o
  over_new v l o i = get_or-set_same b.over (v - 1) o 0 (let e = s.over_long in omega arith)

  pub stopped_new : (v : ℕ) (t : Bool) → InV v → get_or (set b.stopped (v - 1) t) (v - 1) false ≡ t
  stopped_new v t i = get_or-set_same b.stopped (v - 1) t false (let e = s.stopped_long in omega arith)

  pub holder_new : (m h : ℕ) → InM m → holder_of (with_holder b m h) m ≡ h
  holder_new m h i = get_or-set_same b.holder (m - 1) h 0 (let e = s.holder_long in omega arith)

  pub wait_new : (v n m : ℕ) → InV v → InN n → wait_of (with_wait b v n m) v n ≡ m
  wait_new v n m i j = get_or-set_same b.waits (seat v n - 1) m 0 (let e = s.waits_long in omega arith)
