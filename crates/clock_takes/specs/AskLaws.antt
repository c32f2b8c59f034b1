-- What comes of an ask that is due: it is not refused, and what holds between the parts of a tick holds after it.
use Rattle.std.specs.Prelude.{ℕ, ◌+◌, ◌≡◌, List, Bool, true, false, Ok, Err}
use Rattle.std.proofs.Math.Path.{refl, subst}
use Rattle.std.proofs.Common.{sym, ap, ◌∙◌, arith}
use Rattle.std.proofs.lemmas.Bool.{false≢true}
use Rattle.std.specs.Prelude.{if◌then◌else◌}
use Rattle.laws.specs.BoolLaws.{clash}
use Rattle.plan.specs.declared.Policy.{Policy}
use Rattle.plan.specs.declared.OverrunChoice.{OverrunChoice}
use Rattle.plan.specs.Refusals.{Fault}
use Rattle.board_seats.specs.Seats.{seat, is_global}
use Rattle.board_rules.specs.Facts.{Facts}
use Rattle.board_rules.specs.View.{facts_in}
use Rattle.board_rules.specs.declared.Board.{Board}
use Rattle.board_rules.specs.declared.Event.{Event}
use Rattle.board_rules.specs.declared.Event.TheVariants.{Ask}
use Rattle.board_rules.specs.declared.Next.TheVariants.{Nobody, To}
use Rattle.board_rules.specs.declared.BoardAnswer.{BoardAnswer}
use Rattle.board_rules.specs.declared.BoardAnswer.TheVariants.{Granted, Waits, Freed, Left, Shows, Refused}
use Rattle.board_rules.specs.declared.Outcome.{Outcome}
use Rattle.board_rules.specs.Board.{with_holder, with_wait, complete, may_have, asked, answered, ask_fault, step}
use Rattle.board_events.specs.Events.{board_by}
use Rattle.board_rules.specs.Lent.{outcome_of}
use Rattle.board_keeps.specs.Fair.{InV, InN}
use Rattle.board_keeps.specs.Good.{good_marked}
use Rattle.board_keeps.specs.Faults.{ask_clear}
use Rattle.clock_rules.specs.Clock.{by_seat, is_wait, no_ask, after}
use Rattle.clock_rules.specs.Trace.{event_line}
use Rattle.clock_times.specs.Times.{timing_in}
use Rattle.clock_marks.specs.Marks.{board_of, done_in, done_cell, at_done, global_mark, Mirrors}
use Rattle.clock_marks.specs.Changes.{PutHeld}
use Rattle.clock_steps.specs.Done.{by_seat_law, seats_long}
use Rattle.clock_steps.specs.Accepted.{is_refusal}
use Rattle.clock_steps.specs.Running.{Running}
use Rattle.clock_steps.specs.Asking.{spent, has_asked, has_waited}
use Rattle.clock_steps.specs.AskTurn.{AsksTaken, asks_taken}
use Rattle.clock_mirrors.specs.Writes.{seat_list}
use Rattle.clock_mirrors.specs.Asks.{PutWhere, wait_mirrors, grant_mirrors}
use Rattle.clock_lines.specs.Told.{told_at, told_to, RoomAt}
use Rattle.clock_going.specs.Going.{timing_by, Going}
use Rattle.clock_passes.specs.Passing.{may_by, may_kept}
use Rattle.clock_takes.specs.Asked.{Asker, Took, took_global, took_local, Kept, kept_waits, kept_took, MayAsk, AskKept, AskMade}

-- WHAT AN ANSWER IS

-- one that waits
wait_answer_law : (a : BoardAnswer) → is_wait a ≡ true → a ≡ Waits
wait_answer_law Granted e = absurd (false≢true e)
wait_answer_law Waits e = refl
wait_answer_law (Freed w) e = absurd (false≢true e)
wait_answer_law (Left b o) e = absurd (false≢true e)
wait_answer_law (Shows t v) e = absurd (false≢true e)
wait_answer_law (Refused r) e = absurd (false≢true e)

-- one that is not refused, and does not wait
grant_answer : (F : Facts) (b : Board) (v n m : ℕ) → is_refusal (step F b (Ask v n m)).answer ≡ false → is_wait (step F b (Ask v n m)).answer ≡ false → (step F b (Ask v n m)).answer ≡ Granted
unfolding step asked
grant_answer F b v n m = at (ask_fault F b v n m) (may_have F b v n m) (complete F Granted (with_holder b m _)) refl (complete F Waits (with_wait b v n m)) refl
  where
    at : (r : Fault) (y : Bool) (o : Outcome) → o.answer ≡ Granted → (u : Outcome) → u.answer ≡ Waits → is_refusal (answered b r (if y then o else u)).answer ≡ false → is_wait (answered b r (if y then o else u)).answer ≡ false →
        (answered b r (if y then o else u)).answer ≡ Granted
    at (Err r) y o e u f g h = absurd (false≢true (sym g))
    at (Ok tt) true o e u f g h = e
    at (Ok tt) false o e u f g h = absurd (clash (ap is_wait f) h)

-- an ask that is not refused has no fault
accepted_clear : (F : Facts) (b : Board) (v n m : ℕ) → is_refusal (step F b (Ask v n m)).answer ≡ false → ask_fault F b v n m ≡ Ok tt
unfolding step
accepted_clear F b v n m = at (ask_fault F b v n m)
  where
    at : (r : Fault) → is_refusal (answered b r (asked F b v n m)).answer ≡ false → r ≡ Ok tt
    at (Ok tt) e = refl
    at (Err r) e = absurd (false≢true (sym e))

-- WHAT IS KEPT leaves the ticks done

-- what has the same number at each seat
same_seats : {f g : ℕ → ℕ → ℕ} → ((v n : ℕ) → InV v → InN n → f v n ≡ g v n) → by_seat f ≡ by_seat g
same_seats {f} {g} h = seat_list (by_seat f) g (seats_long f) (λ v n i j. by_seat_law f v n i j ∙ h v n i j)

module _ {v n : ℕ} (i : InV v) (j : InN n) where
  took_done : {k k' : List ℕ} {m : ℕ} {g : Bool} → Took k k' v n m g → (w y : ℕ) → InV w → InN y → done_cell k' w y ≡ done_cell k w y
  took_done (took_global p q) w y a c = q.else_same (at_done + seat w y) (λ e. omega arith) ∙ p.else_same (at_done + seat w y) (λ e. omega arith) (λ e. omega arith)
  took_done (took_local p) w y a c = p.else_same (at_done + seat w y) (λ e. omega arith) (λ e. omega arith)

  kept_cells : {k k' : List ℕ} {m : ℕ} {g u : Bool} → Kept k k' v n m g u → (w y : ℕ) → InV w → InN y → done_cell k' w y ≡ done_cell k w y
  kept_cells (kept_waits p) w y a c = p.else_same (at_done + seat w y) (λ e. omega arith) (λ e. omega arith)
  kept_cells (kept_took q) w y a c = took_done q w y a c

  kept_done : {k k' : List ℕ} {m : ℕ} {g u : Bool} → Kept k k' v n m g u → done_in k' ≡ done_in k
  kept_done {k} {k'} h = same_seats (kept_cells h)

-- AN ASK THAT IS DUE
module _ {p : Policy} {c : OverrunChoice} {t x ls os : List ℕ} {ss : List Bool} {hs ws k : List ℕ} (g : Going p c t x ls os ss hs ws k) {v n m : ℕ}
    (a : Asker (timing_by p c t x) (board_of ls os ss hs ws) (done_in k) v n m) where
  -- the ask is taken
  record Taken : Type 0 where
    accepted : is_refusal (step (timing_by p c t x).facts (board_of ls os ss hs ws) (Ask v n m)).answer ≡ false
    running : Running (timing_by p c t x) (step (timing_by p c t x).facts (board_of ls os ss hs ws) (Ask v n m)).board (done_in k)

  taken_as : {y : _} → AsksTaken (timing_by p c t x) a.core (board_of ls os ss hs ws) (done_in k) (after (Ask v n m) (no_ask y)) → Taken
  unfolding board_by
  taken_as h = record { accepted = h.accepted.0; running = h.running }

  is_taken : Taken
  is_taken = at (is_wait (step (timing_by p c t x).facts (board_of ls os ss hs ws) (Ask v n m)).answer) refl
    where
      at : (w : Bool) → is_wait (step (timing_by p c t x).facts (board_of ls os ss hs ws) (Ask v n m)).answer ≡ w → Taken
      at true w = taken_as {y = Nobody} (asks_taken g.paced a.core (done_in k) g.running (has_waited v n m a.is_picked a.chosen a.is_due_law a.some w spent))
      at false w = taken_as {y = To v n} (asks_taken g.paced a.core (done_in k) {k = 1} g.running (has_asked v n m a.is_picked a.chosen a.is_due_law a.some w))

  -- it has no fault
  is_clear_law : ask_fault (timing_by p c t x).facts (board_of ls os ss hs ws) v n m ≡ Ok tt
  is_clear_law = accepted_clear (timing_by p c t x).facts (board_of ls os ss hs ws) v n m is_taken.accepted

  -- what is kept says whether the task may have m
  is_may : may_by t hs k v n m ≡ may_have (facts_in p c t) (board_of ls os ss hs ws) v n m
  unfolding timing_in
  is_may =
      may_kept p c t g.mirrors g.paced.fair g.running.is_good v n m a.chosen.v_in (ask_clear (timing_by p c t x).facts (board_of ls os ss hs ws) v n m is_clear_law).no_hold

  -- the task may ask
  pub may_ask : MayAsk p c t ls os ss hs ws k v n m
  unfolding timing_in
  may_ask = record {
    shaped = g.running.shaped;
    marked = good_marked (facts_in p c t) (board_of ls os ss hs ws) g.running.is_good;
    sized = g.mirrors.sized;
    v_in = a.chosen.v_in;
    n_in = a.chosen.n_in;
    no_fault = is_clear_law;
    may = is_may;
  }

  -- what is kept is so
  took_mirrors : {k' : List ℕ} {y : Bool} → (timing_by p c t x).facts.global m ≡ y → is_wait (step (timing_by p c t x).facts (board_of ls os ss hs ws) (Ask v n m)).answer ≡ false → Took k k' v n m y →
      Mirrors (timing_by p c t x) x (step (timing_by p c t x).facts (board_of ls os ss hs ws) (Ask v n m)).board k'
  took_mirrors {k'} {y} e w q = at q e
    where
      granted : {k₁ : List ℕ} → PutHeld k k₁ v n (if (timing_by p c t x).facts.global m then global_mark else m) → PutWhere ((timing_by p c t x).facts.global m) k₁ k' 3 v →
          Mirrors (timing_by p c t x) x (step (timing_by p c t x).facts (board_of ls os ss hs ws) (Ask v n m)).board k'
      granted =
          grant_mirrors g.mirrors g.paced.fair g.running.shaped g.running.is_good v n m
          (grant_answer (timing_by p c t x).facts (board_of ls os ss hs ws) v n m is_taken.accepted w)

      at : {z : Bool} → Took k k' v n m z → (timing_by p c t x).facts.global m ≡ z → Mirrors (timing_by p c t x) x (step (timing_by p c t x).facts (board_of ls os ss hs ws) (Ask v n m)).board k'
      at (took_global {k₁} h i) f = granted {k₁ = k₁} (rw f h) (rw f i)
      at (took_local h) f = granted {k₁ = k'} (rw f h) (rw f refl)

  kept_mirrors : {k' : List ℕ} {y w : Bool} → (timing_by p c t x).facts.global m ≡ y → w ≡ is_wait (step (timing_by p c t x).facts (board_of ls os ss hs ws) (Ask v n m)).answer → Kept k k' v n m y w →
      Mirrors (timing_by p c t x) x (step (timing_by p c t x).facts (board_of ls os ss hs ws) (Ask v n m)).board k'
  kept_mirrors e f (kept_waits h) = wait_mirrors g.mirrors g.paced.fair g.running.shaped g.running.is_good v n m (wait_answer_law _ (sym f)) h
  kept_mirrors e f (kept_took h) = took_mirrors e (sym f) h

  -- the ask is made
  pub ask_made : {on : Bool} {i : ℕ} {o : List ℕ} {at : ℕ} {hs' ws' k' o' : List ℕ} {waits : Bool} {at' : ℕ} → AskKept p c t ls os ss on i v n m hs ws k o at hs' ws' k' o' waits at' →
      AskMade p c t x ls os ss on i v n m hs ws k o at hs' ws' k' o' waits at'
  unfolding timing_in facts_in
  ask_made {k' = k'} h =
      let T = timing_by p c t x in
      let d = kept_done a.chosen.v_in a.chosen.n_in h.kept in
      record {
        going = record {
          paired = g.paired;
          ordered = g.ordered;
          paced = g.paced;
          running = subst (λ y. Running T y (done_in k')) (sym h.board) (subst (λ y. Running T (step T.facts (board_of ls os ss hs ws) (Ask v n m)).board y) (sym d) is_taken.running);
          mirrors = subst (λ y. Mirrors T x y k') (sym h.board) (kept_mirrors refl h.is_wait_law h.kept);
        };
        done_same = d;
        board = h.board;
        is_wait_law = h.is_wait_law;
        text = h.text;
        size = h.size;
      }

-- BY THE CODE: r is the answer, and b the board then
module _ {r : BoardAnswer} {b : Board} {u : Outcome} (e : outcome_of r b ≡ u) where
  answer_is : r ≡ u.answer
  answer_is = ap (λ (y : Outcome). y.answer) e

  -- there is room for its line
  pub answer_room : (on : Bool) (i : ℕ) (f : Event) (o : List ℕ) (at : ℕ) → RoomAt on (event_line i f u.answer) o at → RoomAt on (event_line i f r) o at
  answer_room on i f o at h = subst (λ y. RoomAt on (event_line i f y) o at) (sym answer_is) h

-- the ask is made, told and kept
pub answer_kept : {p : Policy} {c : OverrunChoice} {t ls os : List ℕ} {ss : List Bool} {v n m : ℕ} {hs ws hs' ws' : List ℕ} {r : BoardAnswer} {on : Bool} {i : ℕ} {k k' o o' : List ℕ} {at at' : ℕ} {w : Bool} →
    outcome_of r (board_of ls os ss hs' ws') ≡ step (facts_in p c t) (board_of ls os ss hs ws) (Ask v n m) →
    w ≡ is_wait r → Kept k k' v n m (is_global t m) w → o' ≡ told_at on (event_line i (Ask v n m) r) o at → at' ≡ told_to on (event_line i (Ask v n m) r) at →
    AskKept p c t ls os ss on i v n m hs ws k o at hs' ws' k' o' w at'
answer_kept {v = v} {n = n} {m = m} {on = on} {i = i} {o = o} {at = at} e f h y z = record {
  board = ap (λ (u : Outcome). u.board) e;
  is_wait_law = f ∙ ap is_wait (answer_is e);
  kept = h;
  text = y ∙ ap (λ a. told_at on (event_line i (Ask v n m) a) o at) (answer_is e);
  size = z ∙ ap (λ a. told_to on (event_line i (Ask v n m) a) at) (answer_is e);
}
