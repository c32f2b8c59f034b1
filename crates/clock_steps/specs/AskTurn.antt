-- No ask of a core's turn is refused; after them every task is in step, and whoever uses the tick is awake and has what it needs.
use Rattle.std.specs.Prelude.{ℕ, ◌≡◌, refl, true, false, ◌&&◌, List, eqb, Ok}
use Rattle.std.proofs.Common.{sym, ◌∙◌}
use Rattle.std.proofs.Math.Path.{ap, subst}
use Rattle.std.proofs.lemmas.Bool.{false≢true}
use Rattle.std.proofs.Math.Logic.{⊎_elim}
use Rattle.laws.specs.BoolLaws.{bool_cases, clash}
use Rattle.board_rules.specs.declared.Board.{Board}
use Rattle.board_rules.specs.declared.Event.TheVariants.{Ask}
use Rattle.board_rules.specs.declared.Next.{Next}
use Rattle.board_rules.specs.declared.Next.TheVariants.{Nobody, To}
use Rattle.board_rules.specs.declared.Outcome.{Outcome}
use Rattle.board_rules.specs.declared.BoardAnswer.{BoardAnswer}
use Rattle.board_rules.specs.declared.BoardAnswer.TheVariants.{Granted, Waits, Freed, Left, Shows, Refused}
use Rattle.board_rules.specs.Board.{seat, holder_of, wait_of, settled, with_holder, may_have, ask_fault, complete, step}
use Rattle.board_events.specs.Events.{board_by, board_after}
use Rattle.board_keeps.specs.Fair.{sheet_m}
use Rattle.board_keeps.specs.Shaped.{step_shaped}
use Rattle.board_keeps.specs.Change.{holder_new}
use Rattle.board_keeps.proofs.Keeps.{step_keeps}
use Rattle.clock_rules.specs.Clock.{Timing, done_of, is_unfinished, Asks, is_wait}
use Rattle.clock_paced.specs.Paced.{Paced}
use Rattle.clock_steps.specs.InStep.{Served, none_held}
use Rattle.clock_steps.specs.Picked.{Chosen, is_ready_law}
use Rattle.clock_steps.specs.Accepted.{is_refusal, Accepted}
use Rattle.clock_steps.specs.Taken.{ask_taken, ask_granted, ask_waits}
use Rattle.clock_steps.specs.Supply.{ask_supply, awake_still}
use Rattle.clock_steps.specs.LockSteps.{ask_in_step}
use Rattle.clock_steps.specs.Running.{Running}
use Rattle.clock_steps.specs.Asking.{Asking, spent, none_picked, none_due, has_asked, has_waited, Due, is_due_law, is_served}

-- who uses the tick: nobody, or a task that may be picked, with nothing due to it
pub record Worker (T : Timing) (c : ℕ) (b : Board) (d : List ℕ) (v n : ℕ) : Type 0 where
  pub chosen : Chosen T c b d v n
  pub served : Served T (holder_of b) v n (done_of d v n)

-- as the pick says it
abbrev pub Working : Timing → ℕ → Board → List ℕ → Next → Type 0
Working T c b d Nobody = Unit {0}
Working T c b d (To v n) = Worker T c b d v n

-- asks that are taken from board b on
pub record AsksTaken (T : Timing) (c : ℕ) (b : Board) (d : List ℕ) (a : Asks) : Type 0 where
  pub accepted : Accepted T.facts b a.events
  pub running : Running T (board_after T.facts b a.events) d
  pub working : Working T c (board_after T.facts b a.events) d a.pick

-- who waits is not refused
wait_taken : (a : BoardAnswer) → is_wait a ≡ true → is_refusal a ≡ false
wait_taken Granted e = refl
wait_taken Waits e = refl
wait_taken (Freed w) e = refl
wait_taken (Left b o) e = refl
wait_taken (Shows t v) e = refl
wait_taken (Refused r) e = absurd (false≢true e)

module _ {T : Timing} (p : Paced T) (c : ℕ) (d : List ℕ) where
  -- an ask that is due is in order
  due_clear : {b : Board} (v n m : ℕ) → Running T b d → Chosen T c b d v n → Due T b d v n m → ask_fault T.facts b v n m ≡ Ok tt
  due_clear {b} v n m g q r =
      let F = T.facts in
      let f = p.fair in
      let y = is_ready_law T b d v n q.ready in
      let l = subst (λ x. F.lists v n x ≡ true) r.begins (p.begun v n (done_of d v n) (λ z. r.some (sym r.begins ∙ z))).section.listed in
      ask_taken F b v n m y.task (f.sheet_mutex v n m l) l q.awake y.no_wait (none_held p (g.in_step v n q.v_in q.n_in) m r.begins r.some r.not_held)

  -- the state after an ask that is due
  due_running : {b : Board} (v n m : ℕ) → Running T b d → Chosen T c b d v n → Due T b d v n m → Running T (step T.facts b (Ask v n m)).board d
  due_running {b} v n m g q r = record {
    shaped = step_shaped T.facts (Ask v n m) g.shaped;
    is_good = step_keeps p.fair g.shaped g.is_good (Ask v n m);
    done_long = g.done_long;
    in_step = ask_in_step p g.shaped g.is_good v n m (due_clear v n m g q r) r.begins g.in_step;
  }

  -- an ask that is granted: the task may still be picked, and has its mutex
  module _ {b : Board} (v n m : ℕ) (g : Running T b d) (q : Chosen T c b d v n) (r : Due T b d v n m) (h : step T.facts b (Ask v n m) ≡ complete T.facts Granted (with_holder b m (seat v n))) where
    -- it waits for nothing, as before
    same_wait : wait_of (step T.facts b (Ask v n m)).board v n ≡ wait_of b v n
    unfolding settled
    same_wait = ap (λ (o : Outcome). wait_of o.board v n) h

    -- it holds the mutex that was due
    now_held : holder_of (step T.facts b (Ask v n m)).board m ≡ seat v n
    unfolding settled
    now_held =
        let l = subst (λ x. T.facts.lists v n x ≡ true) r.begins (p.begun v n (done_of d v n) (λ z. r.some (sym r.begins ∙ z))).section.listed in
        ap (λ (o : Outcome). holder_of o.board m) h ∙ holder_new g.shaped m (seat v n) (sheet_m p.fair v n m l)

    -- it is awake still
    granted_worker : Worker T c (step T.facts b (Ask v n m)).board d v n
    granted_worker = record {
      chosen = record {
        v_in = q.v_in;
        n_in = q.n_in;
        on_core = q.on_core;
        awake = awake_still T.facts b (step T.facts b (Ask v n m)).board v (ask_supply p.fair g.shaped g.is_good v n m v q.v_in) q.awake;
        ready = ap (λ w. is_unfinished T d v n && eqb w 0) same_wait ∙ q.ready;
      };
      served = λ nz. ap (holder_of (step T.facts b (Ask v n m)).board) r.begins ∙ now_held;
    }

  -- the asks of a turn are taken
  pub asks_taken : {k : ℕ} {b : Board} {a : Asks} → Running T b d → Asking T c d k b a → AsksTaken T c b d a
  unfolding board_by
  asks_taken g spent = record { accepted = tt; running = g; working = tt }
  asks_taken g (none_picked e) = record { accepted = tt; running = g; working = tt }
  asks_taken {b} g (none_due v n x q e) = record { accepted = tt; running = g; working = record { chosen = q; served = is_served T b d v n e } }
  asks_taken {b} g (has_asked v n m y q e nz w) =
      let F = T.facts in
      let r = is_due_law T b d v n m e nz in
      let x = due_clear v n m g q r in
      let h = ⊎_elim (λ z. ask_granted F b v n m x z) (λ z. absurd (clash (ap (λ (o : Outcome). is_wait o.answer) (ask_waits F b v n m x z)) w)) (bool_cases (may_have F b v n m)) in
      record {
        accepted = (ap (λ (o : Outcome). is_refusal o.answer) h, tt);
        running = due_running v n m g q r;
        working = granted_worker v n m g q r h;
      }
  asks_taken {b} g (has_waited v n m y q e nz w rest) =
      let r = is_due_law T b d v n m e nz in
      let t = asks_taken (due_running v n m g q r) rest in
      record { accepted = (wait_taken (step T.facts b (Ask v n m)).answer w, t.accepted); running = t.running; working = t.working }
