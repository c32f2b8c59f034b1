-- What k plain turns come to: there is one such state, and k ticks after j of them are j + k.
use Rattle.std.specs.Prelude.{ℕ, suc, ◌+◌, ◌-◌, ◌*◌, ◌<◌, ◌≤◌, ◌≡◌, refl, Bool, true, false, List, eqb, length, get_or, set}
use Rattle.std.proofs.Common.{sym, ap, ap₂, ◌∙◌, arith, eqb-true, set-set, ext_get_or}
use Rattle.std.proofs.lemmas.Bool.{eqb-false}
use Rattle.std.proofs.lemmas.List.{set-get_or}
use Rattle.std.specs.Prelude.{if◌then◌else◌}
use Rattle.plan.specs.Limits.{max_v, most_n}
use Rattle.board_rules.specs.declared.Board.{Board}
use Rattle.board_rules.specs.Board.{seat, left_of}
use Rattle.board_rules.specs.Lent.{board_of}
use Rattle.board_keeps.specs.Fair.{InV}
use Rattle.clock_rules.specs.Clock.{Timing, done_of}
use Rattle.clock_plains.specs.Plains.{Plain, loses, Spent}
use Rattle.clock_plains.specs.PlainLaws.{left_lost, left_kept, done_nobody, done_somebody, done_own, names_in, loses_alike}

-- a choice by its two cases
pub by_test : {A : Type 0} (t : Bool) {x y z : A} → (t ≡ true → x ≡ y) → (t ≡ false → x ≡ z) → x ≡ (if t then y else z)
by_test true f g = f refl
by_test false f g = g refl

-- boards with the same lists are one
pub boards_same : (b b' : Board) → b'.left ≡ b.left → b'.over ≡ b.over → b'.stopped ≡ b.stopped → b'.holder ≡ b.holder → b'.waits ≡ b.waits → b' ≡ b
boards_same b b' l o s h w =
    ap₂ (λ x y. board_of x y b'.stopped b'.holder b'.waits) l o ∙ ap₂ (λ x y. board_of b.left b.over x y b'.waits) s h
    ∙ ap (board_of b.left b.over b.stopped b.holder) w

-- and lists of budgets are by their names
pub lefts_same : (b b' : Board) → length b.left ≡ max_v → length b'.left ≡ length b.left → ((w : ℕ) → InV w → left_of b' w ≡ left_of b w) → b'.left ≡ b.left
lefts_same b b' l e h =
    ext_get_or 0 b'.left b.left e
    (λ i a.
    let z : suc i - 1 ≡ i = omega arith in
    ap (λ y. get_or b'.left y 0) (sym z) ∙ h (suc i) (record { from = omega arith; to = omega arith }) ∙ ap (λ y. get_or b.left y 0) z)

-- THERE IS ONE SUCH STATE
pub spent_one : {T : Timing} {c : ℕ} {b : Board} {d : List ℕ} {v n k : ℕ} {b₁ b₂ : Board} {d₁ d₂ : List ℕ} → length b.left ≡ max_v →
    Spent T c b d v n k b₁ d₁ → Spent T c b d v n k b₂ d₂ → (b₁ ≡ b₂) × (d₁ ≡ d₂)
spent_one {b₁} {b₂} long s t = (
  boards_same b₂ b₁ (lefts_same b₂ b₁ (t.left_long ∙ long) (s.left_long ∙ sym t.left_long) (λ w i. s.left w i ∙ sym (t.left w i)))
      (s.over_same ∙ sym t.over_same) (s.stopped_same ∙ sym t.stopped_same) (s.holder_same ∙ sym t.holder_same) (s.waits_same ∙ sym t.waits_same),
  s.done ∙ sym t.done,
)

-- and its ticks done
abbrev pub spent_done : List ℕ → ℕ → ℕ → ℕ → List ℕ
spent_done d v n k = if eqb v 0 then d else set d (seat v n - 1) (done_of d v n + k)

-- no ticks leave the state
pub spent_none : (T : Timing) (c : ℕ) (b : Board) (d : List ℕ) (v n : ℕ) → Spent T c b d v n 0 b d
spent_none T c b d v n = record {
  left_long = refl;
  left = λ w i. by_test (loses T c b d v w) (λ e. omega arith) (λ e. refl);
  over_same = refl;
  stopped_same = refl;
  holder_same = refl;
  waits_same = refl;
  done = by_test (eqb v 0) (λ e. refl) (λ e. sym (ap (set d (seat v n - 1)) {x = done_of d v n + 0} {y = done_of d v n} (omega arith) ∙ set-get_or d (seat v n - 1) 0));
}

-- TICKS AFTER TICKS
module _ {T : Timing} {c : ℕ} {b : Board} {d : List ℕ} {v n i j : ℕ} {b₁ : Board} {d₁ : List ℕ}
    (long : length d ≡ max_v * most_n) (p : Plain T c b d v n i) (few : j ≤ i) (s : Spent T c b d v n j b₁ d₁) where
  -- the ticks done, at the seat alone
  done_again : (k : ℕ) → 0 < v → set d₁ (seat v n - 1) (done_of d₁ v n + k) ≡ set d (seat v n - 1) (done_of d v n + (j + k))
  done_again k h =
      let m = names_in p h in
      let o = done_own s h m.0 m.1 long in
      ap (set d₁ (seat v n - 1)) {x = done_of d₁ v n + k} {y = done_of d v n + (j + k)} (omega arith)
      ∙ ap (λ y. set y (seat v n - 1) (done_of d v n + (j + k))) (done_somebody s h) ∙ set-set d (seat v n - 1) (done_of d v n + j) (done_of d v n + (j + k))

  -- and of j + k ticks k are left after j
  pub spent_rest : {k : ℕ} {b₂ : Board} {d₂ : List ℕ} → Spent T c b d v n (j + k) b₂ d₂ → Spent T c b₁ d₁ v n k b₂ d₂
  spent_rest {k} {b₂} {d₂} t = record {
    left_long = t.left_long ∙ sym s.left_long;
    left = λ w a.
        by_test (loses T c b₁ d₁ v w)
        (λ e. let f = sym (loses_alike p s few long w a) ∙ e in let x = left_lost s w a f in let y = left_lost t w a f in omega arith)
        (λ e. let f = sym (loses_alike p s few long w a) ∙ e in left_kept t w a f ∙ sym (left_kept s w a f));
    over_same = t.over_same ∙ sym s.over_same;
    stopped_same = t.stopped_same ∙ sym s.stopped_same;
    holder_same = t.holder_same ∙ sym s.holder_same;
    waits_same = t.waits_same ∙ sym s.waits_same;
    done = by_test (eqb v 0) (λ e. let z = eqb-true v 0 e in done_nobody t z ∙ sym (done_nobody s z))
        (λ e. let h : 0 < v = let z = eqb-false v 0 e in omega arith in done_somebody t h ∙ sym (done_again k h));
  }
