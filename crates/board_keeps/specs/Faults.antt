-- What an event that is not refused says of the plan and the board.
use Rattle.std.specs.Prelude.{ℕ, ◌≤◌, ◌≡◌, true, false, ◌&&◌, not, eqb, leb, Ok}
use Rattle.std.proofs.Common.{⊎_elim, leb-true, eqb-true}
use Rattle.std.proofs.lemmas.Bool.{eqb-false, not-true, not-false}
use Rattle.laws.specs.RangeLaws.{none_at}
use Rattle.laws.specs.BoolLaws.{both_left, both_right, neither_left, neither_right, clash, bool_cases}
use Rattle.plan.specs.Limits.{max_m, max_ticks}
use Rattle.plan.specs.declared.Refusal.TheVariants.{Range, Unknown, Unlisted, Asleep, Busy, NotHolder, Supply}
use Rattle.plan.specs.Rules.{within}
use Rattle.plan.specs.JudgeLaws.{clear_test, clear_rest}
use Rattle.board_rules.specs.Facts.{Facts}
use Rattle.board_rules.specs.declared.Board.{Board}
use Rattle.board_rules.specs.Board.{seat, holder_of, wait_of, holds, is_busy, is_asleep, supply, passes, may_have, ask_fault, free_fault, use_fault, top_fault}
use Rattle.board_keeps.specs.Fair.{Fair, InM}
use Rattle.board_keeps.specs.Good.{barred_fails}

-- `ask v n m` is not refused: the sheet lists m, and the task neither holds nor waits
pub record AskClear (F : Facts) (b : Board) (v n m : ℕ) : Type 0 where
  pub listed : F.lists v n m ≡ true
  pub no_wait : wait_of b v n ≡ 0
  pub no_hold : (k : ℕ) → InM k → holder_of b k ≡ seat v n → ⊥

pub ask_clear : (F : Facts) (b : Board) (v n m : ℕ) → ask_fault F b v n m ≡ Ok tt → AskClear F b v n m
unfolding ask_fault is_busy
ask_clear F b v n m e =
    let e1 = clear_rest (F.has_task v n && F.has_mutex m) Unknown _ e in
    let e2 = clear_rest (F.lists v n m) Unlisted _ e1 in
    let e3 = clear_rest (not (is_asleep F b v)) Asleep _ e2 in
    let idle = not-true (is_busy b v n) (clear_test (not (is_busy b v n)) Busy (Ok tt) e3) in
    record {
      listed = clear_test (F.lists v n m) Unlisted _ e1;
      no_wait = eqb-true (wait_of b v n) 0 (not-false _ (neither_left (not (eqb (wait_of b v n) 0)) _ idle));
      no_hold = λ k i. eqb-false (holder_of b k) (seat v n) (none_at max_m k (λ j. holds b v n j) (neither_right (not (eqb (wait_of b v n) 0)) _ idle) i.from i.to);
    }

-- `free v n m` is not refused: the task is in the plan and holds m
pub record FreeClear (F : Facts) (b : Board) (v n m : ℕ) : Type 0 where
  pub task : F.has_task v n ≡ true
  pub mutex : F.has_mutex m ≡ true
  pub held : holder_of b m ≡ seat v n

pub free_clear : (F : Facts) (b : Board) (v n m : ℕ) → free_fault F b v n m ≡ Ok tt → FreeClear F b v n m
unfolding free_fault
free_clear F b v n m e =
    let t = clear_test (F.has_task v n && F.has_mutex m) Unknown _ e in
    record {
      task = both_left (F.has_task v n) _ t;
      mutex = both_right (F.has_task v n) _ t;
      held = eqb-true (holder_of b m) (seat v n) (clear_test (holds b v n m) NotHolder (Ok tt) (clear_rest (F.has_task v n && F.has_mutex m) Unknown _ e));
    }

-- `use v t` is not refused: the VCPU is in the plan and has the ticks
pub record UseClear (F : Facts) (b : Board) (v t : ℕ) : Type 0 where
  pub vcpu : F.has_vcpu v ≡ true
  pub enough : t ≤ supply F b v

pub use_clear : (F : Facts) (b : Board) (v t : ℕ) → use_fault F b v t ≡ Ok tt → UseClear F b v t
unfolding use_fault
use_clear F b v t e =
    let e1 = clear_rest (F.has_vcpu v) Unknown _ e in
    let e2 = clear_rest (within t 1 max_ticks) Range _ e1 in
    let e3 = clear_rest (not (is_asleep F b v)) Asleep _ e2 in
    record {
      vcpu = clear_test (F.has_vcpu v) Unknown _ e;
      enough = leb-true t (supply F b v) (clear_test (leb t (supply F b v)) Supply (Ok tt) e3);
    }

pub top_clear : (F : Facts) (v : ℕ) → top_fault F v ≡ Ok tt → F.has_vcpu v ≡ true
unfolding top_fault
top_clear F v e = clear_test (F.has_vcpu v) Unknown (Ok tt) e

-- A MUTEX THAT A TASK MAY HAVE IS FREE

-- a local mutex that the task lists is free where the task passes the test and does not hold it
pub passes_free : {F : Facts} (f : Fair F) (b : Board) (v n m : ℕ) → F.lists v n m ≡ true → F.global m ≡ false → InM m →
    (holder_of b m ≡ seat v n → ⊥) → passes F b v n ≡ true → holder_of b m ≡ 0
passes_free {F} f b v n m l g i apart p =
    ⊎_elim (λ e. eqb-true (holder_of b m) 0 e)
    (λ e. absurd (clash p (barred_fails F b v n (record {
      by = m;
      by_in = i;
      is_local_law = f.sheet_local v n m l g;
      held = eqb-false (holder_of b m) 0 e;
      by_other = apart;
      ceiling = f.sheet_ceiling v n m l;
    }))))
    (bool_cases (eqb (holder_of b m) 0))

pub may_free : {F : Facts} (f : Fair F) (b : Board) (v n m : ℕ) → F.lists v n m ≡ true → InM m →
    (holder_of b m ≡ seat v n → ⊥) → may_have F b v n m ≡ true → holder_of b m ≡ 0
unfolding may_have
may_free {F} f b v n m l i apart e =
    ⊎_elim (λ g. eqb-true (holder_of b m) 0 (rw g at e)) (λ g. passes_free f b v n m l g i apart (rw g at e)) (bool_cases (F.global m))
