-- The nexts before tick 0: all recur at it.
use Rattle.std.specs.Prelude.{ℕ, ◌+◌, ◌-◌, ◌<◌, ◌≤◌, ◌≡◌, List, Bool, true, false, ltb, length, get_or}
use Rattle.std.proofs.Common.{sym, subst, ◌∙◌, arith, lt-ltb, le-ltb}
use Rattle.std.specs.Prelude.{if◌then◌else◌}
use Rattle.clock_nexts.specs.Nexts.{Least, places, nexts_length, never, period_at, next_at, at_tops, at_jobs, Wrote, Nexts}
use Rattle.clock_nexts.specs.LeastLaws.{least_first}
use Rattle.clock_firsts.specs.Firsts.{first_next, first_nexts}

-- by the test of its period
pub first_some : (p : ℕ) → 0 < p → 0 ≡ first_next p
first_some p g = rw (lt-ltb 0 p g)

pub first_never : (p : ℕ) → p ≤ 0 → never ≡ first_next p
first_never p l = rw (le-ltb 0 p l)

first_small : (p : ℕ) → first_next p ≤ never
first_small p = at_test (ltb 0 p)
  where
    at_test : (b : Bool) → (if b then 0 else never) ≤ never
    at_test true = omega arith
    at_test false = omega arith

-- ALL RECUR AT TICK 0: the nexts are written, and then 0 behind them
pub first_nexts_law : {x y₀ y₁ y : List ℕ} → length y₀ ≡ nexts_length → Wrote (first_nexts x) y₀ y₁ 0 places → Wrote (λ j. 0) y₁ y places nexts_length → Nexts x y 0
first_nexts_law {x} {y₀} {y₁} {y} e g h = record {
  long = h.length_same ∙ g.length_same ∙ e;
  least = λ i l p. subst (Least (period_at x i) 0) (first_some (period_at x i) p ∙ sym (at i l)) (least_first (period_at x i) p);
  none = λ i l z. at i l ∙ sym (first_never (period_at x i) (omega arith));
  small = λ i l. let q = at i l in let s = first_small (period_at x i) in omega arith;
  rows_from = λ v i. omega arith;
  rows_to = λ v n i j. let z = behind (places - 1 + v) (omega arith) (omega arith) in omega arith;
  tops_from = omega arith;
  tops_to_law = λ i l. let z = behind at_tops (omega arith) (omega arith) in omega arith;
  jobs_from = omega arith;
  jobs_to = λ v i. let z = behind at_jobs (omega arith) (omega arith) in omega arith;
}
  where
    at : (i : ℕ) → i < places → next_at y i ≡ first_next (period_at x i)
    at i l = h.else_same i (λ a b. omega arith) ∙ g.new i (omega arith) l

    behind : (j : ℕ) → places ≤ j → j < nexts_length → get_or y j 0 ≡ 0
    behind j a b = h.new j a b
