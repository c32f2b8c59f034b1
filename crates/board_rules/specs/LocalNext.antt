-- Who gets a mutex after a local one is freed.
use Rattle.std.specs.Prelude.{ℕ, ◌≤◌, ◌<◌, ◌≡◌, Bool, not, eqb}
use Rattle.std.proofs.Math.Path.{refl, subst}
use Rattle.std.proofs.Common.{sym, ap, ◌∙◌, arith, eq-zero-or-pos}
use Rattle.std.proofs.Math.Bool.{true, false}
use Rattle.std.proofs.Math.Logic.{⊎_elim}
use borrow.Author.Tests.{eqb-false, ne_eqb, not-true}
use Rattle.std.specs.Prelude.{if◌then◌else◌}
use Rattle.laws.specs.RangeLaws.{highest_le, highest_passes, highest_least}
use Rattle.laws.specs.BoolLaws.{both_left, both_right, both, bool_cases}
use Rattle.plan.specs.Limits.{most_n}
use Rattle.board_rules.specs.Facts.{Facts}
use Rattle.board_rules.specs.Names.{InN}
use Rattle.board_rules.specs.Board.{Board, Next, Nobody, To, wait_of, local_waiter, passes, next_of, local_n, next_local}

pub record LocalWait (F : Facts) (b : Board) (v n : ℕ) : Type 0 where
  pub some_wait : wait_of b v n ≡ 0 → ⊥
  pub is_local_law : F.local_to v (wait_of b v n) ≡ true

pub local_wait : (F : Facts) (b : Board) (v n : ℕ) → local_waiter F b v n ≡ true → LocalWait F b v n
unfolding local_waiter
local_wait F b v n e = record {
  some_wait = eqb-false (wait_of b v n) 0 (not-true _ (both_left (not (eqb (wait_of b v n) 0)) _ e));
  is_local_law = both_right (not (eqb (wait_of b v n) 0)) _ e;
}

pub wait_local : (F : Facts) (b : Board) (v n : ℕ) → LocalWait F b v n → local_waiter F b v n ≡ true
unfolding local_waiter
wait_local F b v n r = both (not (eqb (wait_of b v n) 0)) _ (ap not (ne_eqb (wait_of b v n) 0 r.some_wait)) r.is_local_law

pub data LocalNext (F : Facts) (b : Board) (v : ℕ) : Next → Type 0 where
  -- no task of v is a local waiter
  no_waiter : ((j : ℕ) → InN j → LocalWait F b v j → ⊥) → LocalNext F b v Nobody
  -- (v, t) is the highest local waiter, and fails the test
  top_fails : (t : ℕ) → passes F b v t ≡ false → ((j : ℕ) → InN j → LocalWait F b v j → j ≤ t) → LocalNext F b v Nobody
  -- (v, t) is the highest local waiter, and passes the test
  top_passes : (t : ℕ) → InN t → LocalWait F b v t → passes F b v t ≡ true → ((j : ℕ) → InN j → LocalWait F b v j → j ≤ t) → LocalNext F b v (To v t)

module _ (F : Facts) (b : Board) (v : ℕ) where
  not_above : (j : ℕ) → InN j → LocalWait F b v j → j ≤ local_n F b v
  unfolding local_n
  not_above j i r = highest_least most_n j (local_waiter F b v) i.to (wait_local F b v j r)

  none_local : local_n F b v ≡ 0 → LocalNext F b v (next_local F b v)
  unfolding next_local
  none_local e = subst (LocalNext F b v) (sym nobody) (no_waiter (λ j i r. let h = not_above j i r in omega arith))
    where
      pick : (t : Bool) → (if t then next_of v 0 else Nobody) ≡ Nobody
      pick true = refl
      pick false = refl

      nobody : next_local F b v ≡ Nobody
      nobody = ap (λ n. if passes F b v n then next_of v n else Nobody) e ∙ pick (passes F b v 0)

  some_local : 0 < local_n F b v → LocalNext F b v (next_local F b v)
  unfolding next_local
  some_local h =
      let t = local_n F b v in
      let to : t ≤ most_n = unfold local_n in highest_le most_n (local_waiter F b v) in
      ⊎_elim
      (λ e. rw (e, ne_eqb t 0 (λ z. omega arith))
      (top_passes t (record { from = h; to = to }) (local_wait F b v t (unfold local_n in highest_passes most_n (local_waiter F b v) h)) e not_above))
      (λ e. rw e (top_fails t e not_above))
      (bool_cases (passes F b v t))

  pub local_next : LocalNext F b v (next_local F b v)
  local_next = ⊎_elim none_local some_local (eq-zero-or-pos (local_n F b v))
