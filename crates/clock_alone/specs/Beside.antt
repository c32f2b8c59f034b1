-- The turn of another core in which nothing is handed on leaves a plain core plain.
use Rattle.std.specs.Prelude.{ℕ, ◌+◌, ◌<◌, ◌≡◌, refl, Bool, true, false, List}
use Rattle.std.proofs.Common.{sym, ap, subst, ◌∙◌, ⊎_elim, arith, ne_eqb}
use Rattle.std.specs.Prelude.{if◌then◌else◌}
use Rattle.laws.specs.BoolLaws.{both_left, both_right, same_or_not}
use Rattle.board_rules.specs.declared.Board.{Board}
use Rattle.board_rules.specs.declared.Next.TheVariants.{Nobody, To}
use Rattle.board_rules.specs.Board.{holds, under_p, next_of}
use Rattle.board_keeps.specs.Fair.{InN}
use Rattle.clock_rules.specs.Clock.{Timing, Run, done_of, is_on, picked, after_turn}
use Rattle.clock_paced.specs.Paced.{Paced, section_m}
use Rattle.clock_steps.specs.Running.{Running}
use Rattle.clock_runs.specs.Cores.{picked_chosen}
use Rattle.clock_plains.specs.Plains.{due_at, Goes, Plain, turn_hands_on}
use Rattle.clock_alone.specs.Same.{SameTasks, SameCore}
use Rattle.clock_alone.specs.Turns.{turn_same_core}
use Rattle.clock_alone.specs.Picks.{picked_same, idles_same}

-- the same is due to a task that holds the same
due_same : {T : Timing} (p : Paced T) {b b' : Board} (v n : ℕ) → InN n → SameTasks v b b' → (x : ℕ) → due_at T b' v n x ≡ due_at T b v n x
due_same {T} p {b} {b'} v n j t x =
    ⊎_elim (λ z. none (holds b' v n (T.begins v n x)) z ∙ sym (none (holds b v n (T.begins v n x)) z))
    (λ nz. ap (λ (h : Bool). if h then 0 else T.begins v n x) (t.hold_same n (T.begins v n x) j (section_m p.fair (p.begun v n x nz).section))) (same_or_not (T.begins v n x) 0)
  where
    -- where no section begins, nothing is
    none : (h : Bool) → T.begins v n x ≡ 0 → (if h then 0 else T.begins v n x) ≡ 0
    none true z = refl
    none false z = z

-- A CORE that is as it was is plain if it was
module _ {T : Timing} (p : Paced T) {c : ℕ} {b b' : Board} {d d' : List ℕ} (s : SameCore T c b d b' d') where
  -- its task goes on
  goes_same : (v n k : ℕ) → is_on T c v ≡ true → Goes T b d v n k → Goes T b' d' v n k
  goes_same v n k on g =
      let a = s.vcpus v g.v_in on in
      let e = s.ticks v g.v_in on n g.n_in in
      record {
        v_in = g.v_in;
        n_in = g.n_in;
        budget = subst (λ x. k < x) (sym a.left_same) g.budget;
        unfinished = subst (λ x. x + k < T.lengths v n) (sym e) g.unfinished;
        no_ask_law = λ j l. ap (λ x. due_at T b' v n (x + j)) e ∙ due_same p v n g.n_in a.tasks (done_of d v n + j) ∙ g.no_ask_law j l;
        no_end = λ j l. ap (λ x. T.ends v n (x + j + 1)) e ∙ g.no_end j l;
      }

  -- and the same VCPUs idle
  pub plain_same : (v n k : ℕ) → Plain T c b d v n k → Plain T c b' d' v n k
  plain_same v n k h = record {
    who = picked_same s ∙ h.who;
    nobody = h.nobody;
    somebody = h.somebody;
    goes = λ l. goes_same v n k (on l) (h.goes l);
    idling = λ w i e.
        subst (λ x. k < x) (sym (s.vcpus w i (both_left (is_on T c w) _ (both_right (under_p T.facts.policy) _ e))).left_same)
        (h.idling w i (sym (idles_same s w i) ∙ e));
  }
    where
      -- the VCPU of its task is on the core
      on : 0 < v → is_on T c v ≡ true
      on l =
          let some : next_of v n ≡ To v n = ap (λ (t : Bool). if t then Nobody else To v n) (ne_eqb n 0 (λ z. let q = h.somebody l in omega arith)) in
          (picked_chosen T c d b v n (h.who ∙ some)).on_core

-- THE LAW
pub plain_beside : {T : Timing} (p : Paced T) (r : Run) → Running T r.board r.done → (c c₂ : ℕ) → (c ≡ c₂ → ⊥) → (v n k : ℕ) → Plain T c r.board r.done v n k →
    turn_hands_on T c₂ r ≡ false → Plain T c (after_turn T c₂ r).board (after_turn T c₂ r).done v n k
plain_beside p r g c c₂ apart v n k h none =
    plain_same p (turn_same_core p r g c c₂ apart none) v n k h

-- and the same task is picked
pub picked_beside : {T : Timing} (p : Paced T) (r : Run) → Running T r.board r.done → (c c₂ : ℕ) → (c ≡ c₂ → ⊥) → turn_hands_on T c₂ r ≡ false →
    picked T c (after_turn T c₂ r).board (after_turn T c₂ r).done ≡ picked T c r.board r.done
picked_beside p r g c c₂ apart none = picked_same (turn_same_core p r g c c₂ apart none)
