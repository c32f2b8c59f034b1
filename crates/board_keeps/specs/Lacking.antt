-- A good board holds nothing for a VCPU, task or mutex that the plan lacks.
use Rattle.std.specs.Prelude.{ℕ, ◌+◌, ◌-◌, ◌*◌, ◌/◌, ◌%◌, ◌≤◌, ◌≡◌, true, false}
use Rattle.std.proofs.Common.{ap, ◌∙◌, ⊎_elim, arith}
use Rattle.laws.specs.BoolLaws.{clash, is_false, same_or_not}
use Rattle.plan.specs.Limits.{max_v, most_n}
use Rattle.board_rules.specs.Facts.{Facts}
use Rattle.board_rules.specs.declared.Board.{Board}
use Rattle.board_rules.specs.Board.{seat, left_of, over_of, is_stopped, holder_of, wait_of, good}
use Rattle.board_keeps.specs.Fair.{Fair, InV, InN, InM}
use Rattle.board_keeps.specs.Good.{good_sound}

-- every seat is a task's
pub record SeatOf (h : ℕ) : Type 0 where
  pub v : ℕ
  pub n : ℕ
  pub v_in : InV v
  pub n_in : InN n
  pub is : h ≡ seat v n

pub seat_of : (h : ℕ) → (h ≡ 0 → ⊥) → h ≤ max_v * most_n → SeatOf h
seat_of h nz l = record {
  v = (h - 1) / most_n + 1;
  n = (h - 1) % most_n + 1;
  v_in = record { from = omega arith; to = omega arith };
  n_in = record { from = omega arith; to = omega arith };
  is = omega arith;
}

module _ {F : Facts} (b : Board) (f : Fair F) (g : good F b ≡ true) where
  pub lacks_vcpu : (v : ℕ) → InV v → F.has_vcpu v ≡ false → (left_of b v ≡ 0) × (over_of b v ≡ 0) × (is_stopped b v ≡ false)
  lacks_vcpu v i e =
      let r = (good_sound F b g).budgets v i in
      let l = r.left_le in
      let o = r.over_le in
      let x = f.no_budget v e in
      let y = f.no_overrun v e in
      (omega arith, omega arith, is_false (is_stopped b v) (λ t. clash (r.mark_vcpu t) e))

  pub lacks_task : (v n : ℕ) → InV v → InN n → F.has_task v n ≡ false → (wait_of b v n ≡ 0) × ((m : ℕ) → InM m → holder_of b m ≡ seat v n → ⊥)
  lacks_task v n i j e =
      let r = (good_sound F b g).holding in (
        ⊎_elim (λ z. z) (λ nz. absurd (clash (f.sheet_task v n (wait_of b v n) (r.wait_listed v n i j nz)) e)) (same_or_not (wait_of b v n) 0),
        λ m k h. clash (f.sheet_task v n m (r.held_listed v n m i j k h)) e,
      )

  pub lacks_mutex : (m : ℕ) → InM m → F.has_mutex m ≡ false → (holder_of b m ≡ 0) × ((v n : ℕ) → InV v → InN n → wait_of b v n ≡ m → ⊥)
  lacks_mutex m k e =
      let r = (good_sound F b g).holding in (
        ⊎_elim (λ z. z)
            (λ nz. let s = seat_of (holder_of b m) nz (r.seat_in m k) in absurd (clash (f.sheet_mutex s.v s.n m (r.held_listed s.v s.n m s.v_in s.n_in k s.is)) e))
            (same_or_not (holder_of b m) 0),
        λ v n i j w. clash (f.sheet_mutex v n (wait_of b v n) (r.wait_listed v n i j (λ z. let q = k.from in omega arith))) (ap F.has_mutex w ∙ e),
      )
