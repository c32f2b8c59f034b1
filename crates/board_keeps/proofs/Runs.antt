-- Event after event from a fresh board: every board is good, so that no event is answered 9.
use Prim.Native.Nat.{ℕ, suc, ◌-◌, ◌*◌}
use Rattle.std.specs.Prelude.{◌≡◌, true, List, [], ◌∷◌}
use Rattle.std.proofs.Common.{sym, ◌∙◌, inl, arith}
use Rattle.std.proofs.Math.Path.{ap}
use Rattle.std.proofs.Math.Bool.{false}
use Rattle.laws.specs.RangeLaws.{list_at}
use Rattle.laws.specs.BoolLaws.{clash}
use Rattle.plan.specs.Limits.{max_v, max_m, most_n}
use Rattle.board_rules.specs.Facts.{Facts}
use Rattle.board_rules.specs.declared.Board.{Board}
use Rattle.board_rules.specs.declared.Event.{Event}
use Rattle.board_rules.specs.Board.{seat, left_of, over_of, is_stopped, holder_of, wait_of, fresh, step, good, step_on}
use Rattle.board_events.specs.Events.{board_after, board_by}
use Rattle.board_rules.specs.Names.{seat_some}
use Rattle.board_rules.proofs.Marked.{fresh_left, fresh_marked}
use Rattle.board_keeps.specs.Fair.{Fair, InV, InN, InM}
use Rattle.board_keeps.specs.Shaped.{Shaped, fresh_shaped, step_shaped}
use Rattle.board_keeps.specs.Good.{Budgeted, Sound, sound_good}
use Rattle.board_keeps.proofs.Keeps.{step_keeps}

-- A FRESH BOARD: full budgets, no mark, no holder, no wait

module _ (F : Facts) where
  pub fresh_over : (v : ℕ) → InV v → over_of (fresh F) v ≡ F.overrun v
  unfolding fresh
  fresh_over v i = list_at max_v (v - 1) F.overrun 0 (omega arith) ∙ ap F.overrun {x = suc (v - 1)} {y = v} (omega arith)

  pub fresh_stopped : (v : ℕ) → InV v → is_stopped (fresh F) v ≡ false
  unfolding fresh
  fresh_stopped v i = list_at max_v (v - 1) (λ w. false) false (omega arith)

  pub fresh_holder : (m : ℕ) → InM m → holder_of (fresh F) m ≡ 0
  unfolding fresh
  fresh_holder m i = list_at max_m (m - 1) (λ k. 0) 0 (omega arith)

  pub fresh_wait : (v n : ℕ) → InV v → InN n → wait_of (fresh F) v n ≡ 0
  unfolding fresh
  fresh_wait v n i j = list_at (max_v * most_n) (seat v n - 1) (λ k. 0) 0 (omega arith)

fresh_budgeted : (F : Facts) (v : ℕ) → InV v → Budgeted F v (left_of (fresh F) v) (over_of (fresh F) v) (is_stopped (fresh F) v)
fresh_budgeted F v i = record {
  left_le = omega (arith, fresh_left F v i);
  over_le = omega (arith, fresh_over F v i);
  budget_first = inl (fresh_over F v i);
  mark_policy = λ e. absurd (clash e (fresh_stopped F v i));
  mark_vcpu = λ e. absurd (clash e (fresh_stopped F v i));
  mark_left = λ e. absurd (clash e (fresh_stopped F v i));
}

-- nobody holds
free_all : (F : Facts) (v n m : ℕ) → InN n → InM m → holder_of (fresh F) m ≡ seat v n → ⊥
free_all F v n m j k e = seat_some v n j (sym e ∙ fresh_holder F m k)

fresh_sound : (F : Facts) → Sound F (fresh F)
fresh_sound F = record {
  budgets = fresh_budgeted F;
  holding = record {
    seat_in = λ m k. omega (arith, fresh_holder F m k);
    held_listed = λ v n m i j k e. absurd (free_all F v n m j k e);
    held_alone = λ v n m x i j k y e q. absurd (free_all F v n m j k e);
    holder_idle = λ v n m i j k e. fresh_wait F v n i j;
    wait_listed = λ v n i j nz. absurd (nz (fresh_wait F v n i j));
  };
  waiting = record {
    for_global = λ v n i j nz e z. nz (fresh_wait F v n i j);
    for_local = λ v n i j nz e. absurd (nz (fresh_wait F v n i j));
  };
}

pub fresh_good : {F : Facts} → Fair F → good F (fresh F) ≡ true
fresh_good {F} f = sound_good F (fresh F) f (fresh_sound F) (fresh_marked F f.vcpu_budget)

-- RUNS

pub after_good : {F : Facts} {b : Board} → Fair F → Shaped b → good F b ≡ true → (es : List Event) → good F (board_after F b es) ≡ true
unfolding board_by
after_good f s g [] = g
after_good {F = F} {b = b} f s g (e ∷ es) = after_good {b = (step F b e).board} f (step_shaped F e s) (step_keeps f s g e) es

pub run_good : {F : Facts} → Fair F → (es : List Event) → good F (board_after F (fresh F) es) ≡ true
run_good {F} f es = after_good f (fresh_shaped F) (fresh_good f) es

-- on a good board the test for 9 changes nothing
pub step_on_law : (F : Facts) (b : Board) → good F b ≡ true → (e : Event) → step_on F b e ≡ step F b e
unfolding step_on
step_on_law F b g e = rw g

pub run_step_on : {F : Facts} → Fair F → (es : List Event) (e : Event) → step_on F (board_after F (fresh F) es) e ≡ step F (board_after F (fresh F) es) e
run_step_on {F} f es e = step_on_law F (board_after F (fresh F) es) (run_good f es) e
