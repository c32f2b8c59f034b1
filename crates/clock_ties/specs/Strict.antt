-- A pick is the one highest: where no two that pass tie, every other that passes has a smaller measure; and so on the clock.
use Rattle.std.specs.Prelude.{ℕ, ◌<◌, ◌≡◌, Bool, true, false, List, ◌↔◌}
use Rattle.std.proofs.Common.{⊎_elim, eq-or-lt_of_le, eqb-true}
use Rattle.laws.specs.Range.{OneTo, any_to}
use Rattle.laws.specs.BoolLaws.{both_left, both_right}
use Rattle.laws_picks.specs.Picks.{top_of}
use Rattle.laws_picks.specs.PickLaws.{top_passes, top_found, top_zero}
use Rattle.plan.specs.Limits.{max_v, most_n}
use Rattle.board_rules.specs.declared.Board.{Board}
use Rattle.board_rules.specs.declared.Event.{Event}
use Rattle.board_rules.specs.Board.{wait_of, fresh, task_priority, vcpu_priority}
use Rattle.board_events.specs.Events.{board_after}
use Rattle.board_keeps.specs.Fair.{Fair, task_v}
use Rattle.clock_rules.specs.Clock.{Timing, is_unfinished, is_ready, has_ready, is_on, may_run, pick_v, pick_n}
use Rattle.clock_ties.specs.Ceiled.{Ceiled, run_ceiled}
use Rattle.clock_ties.specs.Ties.{no_tie, no_tie_vcpu}

-- no two different numbers from 1 to n that pass have the same p
abbrev pub Untied : ℕ → (ℕ → Bool) → (ℕ → ℕ) → Type 0
Untied n f p = (j k : ℕ) → OneTo n j → OneTo n k → f j ≡ true → f k ≡ true → (j ≡ k → ⊥) → p j ≡ p k → ⊥

-- where no two that pass tie, every other that passes has a smaller p than the pick
pub top_strict : (n : ℕ) (f : ℕ → Bool) (p : ℕ → ℕ) → Untied n f p → (j : ℕ) → OneTo n j → f j ≡ true →
    (j ≡ top_of n f p → ⊥) → p j < p (top_of n f p)
top_strict n f p apart j i e ne =
    let r = top_found n f p j i.from i.to e in
    ⊎_elim (λ q. absurd (apart j (top_of n f p) i r.in_range_law e r.is_passed ne q)) (λ l. l) (eq-or-lt_of_le (r.is_most j i.from i.to e))

-- ON THE CLOCK

module _ (T : Timing) (b : Board) (d : List ℕ) where
  -- a ready task is of the plan
  ready_task : (v n : ℕ) → is_ready T b d v n ≡ true → T.facts.has_task v n ≡ true
  ready_task v n e = both_left (T.facts.has_task v n) _ (both_left (is_unfinished T d v n) _ e)

  -- and waits for nothing
  ready_idle : (v n : ℕ) → is_ready T b d v n ≡ true → wait_of b v n ≡ 0
  ready_idle v n e = eqb-true (wait_of b v n) 0 (both_right (is_unfinished T d v n) _ e)

  -- a VCPU that may run is of the plan
  run_vcpu : (c v : ℕ) → may_run T c b d v ≡ true → T.facts.has_vcpu v ≡ true
  run_vcpu c v e = both_left (T.facts.has_vcpu v) _ (both_left (is_on T c v) _ e)

  -- no two VCPUs that may run on core c tie
  pub vcpus_untied : (c : ℕ) → Untied max_v (may_run T c b d) (vcpu_priority T.facts b)
  vcpus_untied c = λ j k i o p q. no_tie_vcpu T.facts b j k i o

  -- no two ready tasks of VCPU v tie
  pub tasks_untied : Fair T.facts → Ceiled T.facts b → (v : ℕ) → Untied most_n (is_ready T b d v) (task_priority T.facts b v)
  tasks_untied f h v = λ j k i o p q. no_tie T.facts b h v j k (task_v f v j (ready_task v j p)) i o (ready_idle v j p) (ready_idle v k q)

  -- where core c picks a VCPU, that VCPU may run on it
  pub pick_vcpu_runs : (c : ℕ) → 0 < pick_v T c b d → may_run T c b d (pick_v T c b d) ≡ true
  unfolding pick_v
  pick_vcpu_runs c h = top_passes max_v (may_run T c b d) (vcpu_priority T.facts b) h

  -- core c picks none just where none may run
  pub pick_vcpu_zero : (c : ℕ) → (any_to max_v (may_run T c b d) ≡ false) ↔ (pick_v T c b d ≡ 0)
  unfolding pick_v
  pick_vcpu_zero c = top_zero max_v (may_run T c b d) (vcpu_priority T.facts b)

  -- every other VCPU that may run on core c has a lower priority than the picked one
  pub pick_vcpu_strict : Fair T.facts → (c v : ℕ) → may_run T c b d v ≡ true → (v ≡ pick_v T c b d → ⊥) →
      vcpu_priority T.facts b v < vcpu_priority T.facts b (pick_v T c b d)
  unfolding pick_v
  pick_vcpu_strict f c v e ne = top_strict max_v (may_run T c b d) (vcpu_priority T.facts b) (vcpus_untied c) v (f.vcpu_in v (run_vcpu c v e)) e ne

  -- where a task of VCPU v is picked, it is ready
  pub pick_task_ready : (v : ℕ) → 0 < pick_n T b d v → is_ready T b d v (pick_n T b d v) ≡ true
  unfolding pick_n
  pick_task_ready v h = top_passes most_n (is_ready T b d v) (task_priority T.facts b v) h

  -- no task of VCPU v is picked just where none is ready
  pub pick_task_zero : (v : ℕ) → (has_ready T b d v ≡ false) ↔ (pick_n T b d v ≡ 0)
  unfolding pick_n
  pick_task_zero v = top_zero most_n (is_ready T b d v) (task_priority T.facts b v)

  -- every other ready task of VCPU v has a lower priority than the picked one
  pub pick_task_strict : Fair T.facts → Ceiled T.facts b → (v n : ℕ) → is_ready T b d v n ≡ true → (n ≡ pick_n T b d v → ⊥) →
      task_priority T.facts b v n < task_priority T.facts b v (pick_n T b d v)
  unfolding pick_n
  pick_task_strict f h v n e ne =
      top_strict most_n (is_ready T b d v) (task_priority T.facts b v) (tasks_untied f h v) n (f.task_in_law v n (ready_task v n e)) e ne

-- so on every board of a run from a fresh board
pub run_pick_task_strict : (T : Timing) → Fair T.facts → (es : List Event) (d : List ℕ) →
    let b = board_after T.facts (fresh T.facts) es in
    (v n : ℕ) → is_ready T b d v n ≡ true → (n ≡ pick_n T b d v → ⊥) → task_priority T.facts b v n < task_priority T.facts b v (pick_n T b d v)
run_pick_task_strict T f es d = pick_task_strict T (board_after T.facts (fresh T.facts) es) d f (run_ceiled f es)
