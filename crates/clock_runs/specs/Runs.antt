-- A run is its events: the board of every state is the board after a beginning of the trace.
use Prim.Native.Nat.{ℕ, zero, suc, ◌+◌, ◌<◌, ◌≤◌}
use Rattle.std.specs.Prelude.{◌≡◌, true, ◌↔◌}
use Rattle.std.proofs.Math.Path.{refl, sym, ap, subst}
use Rattle.std.proofs.Common.{◌∙◌, add-one}
use mathlib.Core.List.{List, [], ◌∷◌, ◌++◌, append-nil}
use native.Mathlib.Omega.{arith}
use Rattle.std.proofs.Math.Decide.{dec_le}
use Rattle.board_rules.specs.Facts.{Facts}
use Rattle.board_rules.specs.declared.Board.{Board}
use Rattle.board_rules.specs.declared.Event.{Event}
use Rattle.board_rules.specs.declared.Next.{Next}
use Rattle.board_rules.specs.declared.Next.TheVariants.{Nobody, To}
use Rattle.board_rules.specs.Board.{fresh, step, good}
use Rattle.board_events.specs.Events.{answers, board_after, answers_by, board_by}
use Rattle.board_keeps.specs.Fair.{Fair}
use Rattle.board_keeps.specs.Shaped.{Shaped, fresh_shaped}
use Rattle.board_keeps.proofs.Runs.{run_good}
use Rattle.clock_rules.specs.Clock.{Timing, Run, at_first, tops, missed, cores, turns, after_turns, opened, tick, unless_missed, events_at, trace_from, trace_of}
use Rattle.clock_ties.specs.Ceiled.{Ceiled, run_ceiled}
use Rattle.clock_steps.specs.Accepted.{board_append}
use Rattle.clock_steps.specs.Missed.{none_missed}
use Rattle.clock_steps.specs.Running.{after_shaped}
use Rattle.clock_steps.specs.RunTaken.{turns_board}
use Rattle.clock_steps.specs.States as states
use Rattle.clock_steps.specs.States.{state_from, Goes, trace_splits}
use Rattle.clock_runs.specs.Misses.{NoMiss, nobody_missed}

-- the answers to two lists of events
pub answers_append : (F : Facts) (b : Board) (xs ys : List Event) → answers F b (xs ++ ys) ≡ answers F b xs ++ answers F (board_after F b xs) ys
unfolding board_by answers_by
answers_append F b [] ys = refl
answers_append F b (x ∷ xs) ys = ap (λ zs. (step F b x).answer ∷ zs) (answers_append F (step F b x).board xs ys)

-- THE STATES OF A RUN

-- the state before tick k: the first, then tick after tick
unfoldable pub state_at : Timing → ℕ → Run
state_at T zero = at_first T
state_at T (suc k) = tick T k (state_at T k)

-- no task misses at a tick before k
abbrev pub Unmissed : Timing → ℕ → Type 0
Unmissed T k = (t : ℕ) → t < k → NoMiss T t (state_at T t).done

-- nor then before an earlier tick
pub unmissed_before : (T : Timing) (k : ℕ) → Unmissed T (suc k) → Unmissed T k
unmissed_before T k h = λ t l. h t (omega arith)

-- nor, where tick k does not miss either, before the next
pub unmissed_next : (T : Timing) (k : ℕ) → Unmissed T k → NoMiss T k (state_at T k).done → Unmissed T (suc k)
unmissed_next T k q m t l = at_test (dec_le (suc t) k)
  where
    at_test : Dec (suc t ≤ k) → NoMiss T t (state_at T t).done
    at_test (yes h) = q t h
    at_test (no h) = let e : k ≡ t = omega arith in subst (λ x. NoMiss T x (state_at T x).done) e m

module _ (T : Timing) where
  -- the last of k + 1 ticks from t on
  state_last : (k t : ℕ) (r : Run) → state_from T (suc k) t r ≡ tick T (t + k) (state_from T k t r)
  unfolding state_from
  state_last zero t r = ap (λ i. tick T i r) {x = t} {y = t + 0} (omega arith)
  state_last (suc k) t r = state_last k (t + 1) (tick T t r) ∙ ap (λ i. tick T i (state_from T k (t + 1) (tick T t r))) {x = t + 1 + k} {y = t + suc k} (omega arith)

  -- the state before tick k is the state after k ticks from the first
  pub state_is : (k : ℕ) → state_from T k 0 (at_first T) ≡ state_at T k
  unfolding state_at state_from
  state_is zero = refl
  state_is (suc k) = state_last k 0 (at_first T) ∙ ap (λ i. tick T i (state_from T k 0 (at_first T))) {x = 0 + k} {y = k} (omega arith) ∙ ap (tick T k) (state_is k)

  -- the last of k + 1 ticks in which no job is missed
  goes_last : (k t : ℕ) (r : Run) → Goes T (suc k) t r ↔ (Goes T k t r × (missed T (t + k) (state_from T k t r).done ≡ Nobody))
  unfolding state_from
  goes_last zero t r =
      let e : t ≡ t + 0 = omega arith in
      let P : ℕ → Type 0 = λ i. missed T i r.done ≡ Nobody in (λ h. (tt, subst P e h.0), λ h. (subst P (sym e) h.1, tt))
  goes_last (suc k) t r =
      let ih = goes_last k (t + 1) (tick T t r) in
      let e : t + 1 + k ≡ t + suc k = omega arith in
      let P : ℕ → Type 0 = λ i. missed T i (state_from T k (t + 1) (tick T t r)).done ≡ Nobody in (
        λ h. let g = ih.0 h.1 in ((h.0, g.0), subst P e g.1),
        λ h. (h.0.0, ih.1 (h.0.1, subst P (sym e) h.1)),
      )

  -- nobody is missed at tick k, by either reading of its state
  missed_here : (k : ℕ) → (missed T (0 + k) (state_from T k 0 (at_first T)).done ≡ Nobody) ↔ NoMiss T k (state_at T k).done
  missed_here k =
      let e : missed T (0 + k) (state_from T k 0 (at_first T)).done ≡ missed T k (state_at T k).done =
      ap (λ i. missed T i (state_from T k 0 (at_first T)).done) {x = 0 + k} {y = k} (omega arith) ∙ ap (λ (r : Run). missed T k r.done) (state_is k) in
      (λ h. none_missed T k (state_at T k).done (sym e ∙ h), λ h. e ∙ nobody_missed T k (state_at T k).done h)

  -- no tick before k misses just where the run goes through k ticks
  pub goes_exactly : (k : ℕ) → Goes T k 0 (at_first T) ↔ Unmissed T k
  goes_exactly zero = (λ h t l. absurd (omega arith), λ h. tt)
  goes_exactly (suc k) =
      let ih = goes_exactly k in
      let last = goes_last k 0 (at_first T) in (
        λ h. let g = last.0 h in unmissed_next T k (ih.0 g.0) ((missed_here k).0 g.1),
        λ h. last.1 (ih.1 (unmissed_before T k h), (missed_here k).1 (h k (omega arith))),
      )

  -- THE BOARD of the state before tick k is the board after the trace of k ticks
  pub state_board : (k : ℕ) → Unmissed T k → (state_at T k).board ≡ board_after T.facts (fresh T.facts) (trace_of T k)
  unfolding at_first
  state_board k q = sym (states.state_board T k 0 (at_first T) ((goes_exactly k).1 q) ∙ ap (λ (r : Run). r.board) (state_is k))

  -- the trace of h ticks and k more, where no tick before h misses
  pub trace_on : (h k : ℕ) → Unmissed T h → trace_of T (h + k) ≡ trace_of T h ++ trace_from T k h (state_at T h)
  trace_on h k q =
      trace_splits T h k 0 (at_first T) ((goes_exactly h).1 q)
      ∙ ap (λ i. trace_of T h ++ trace_from T k i (state_from T h 0 (at_first T))) {x = 0 + h} {y = h} (omega arith)
      ∙ ap (λ r. trace_of T h ++ trace_from T k h r) (state_is h)

  -- one tick, with a miss or without
  trace_one : (t : ℕ) → trace_from T 1 t (state_at T t) ≡ events_at T t (state_at T t)
  unfolding trace_from
  trace_one t = go (missed T t (state_at T t).done)
    where
      go : (x : Next) → events_at T t (state_at T t) ++ unless_missed [] (λ v n. []) x ≡ events_at T t (state_at T t)
      go Nobody = append-nil (events_at T t (state_at T t))
      go (To v n) = append-nil (events_at T t (state_at T t))

  -- so with one tick more, with a miss or without
  pub trace_next : (k : ℕ) → Unmissed T k → trace_of T (suc k) ≡ trace_of T k ++ events_at T k (state_at T k)
  trace_next k q = ap (trace_of T) (sym (add-one k)) ∙ trace_on k 1 q ∙ ap (λ es. trace_of T k ++ es) (trace_one k)

-- BOARDS REACHED BY EVENTS

-- b is the board after some events, from a fresh board
pub record Reached (F : Facts) (b : Board) : Type 0 where
  pub events : List Event
  pub is : b ≡ board_after F (fresh F) events

-- more events
pub reached_after : {F : Facts} {b : Board} → Reached F b → (es : List Event) → Reached F (board_after F b es)
reached_after {F} {b} h es = record {
  events = h.events ++ es;
  is = ap (λ x. board_after F x es) h.is ∙ sym (board_append F (fresh F) h.events es);
}

-- such a board meets the conditions for 9
pub reached_good : {F : Facts} {b : Board} → Fair F → Reached F b → good F b ≡ true
reached_good {F} f h = ap (good F) h.is ∙ run_good f h.events

-- its lists have their lengths
pub reached_shaped : {F : Facts} {b : Board} → Reached F b → Shaped b
reached_shaped {F} h = subst Shaped (sym h.is) (after_shaped F (fresh_shaped F) h.events)

-- and of two of its local mutexes that are held one has its ceiling below the other's holder
pub reached_ceiled : {F : Facts} {b : Board} → Fair F → Reached F b → Ceiled F b
reached_ceiled {F} f h = subst (Ceiled F) (sym h.is) (run_ceiled f h.events)

module _ (T : Timing) where
  -- turns go from such a board to such a board
  pub turns_reached : (cs : List ℕ) (r : Run) → Reached T.facts r.board → Reached T.facts (after_turns T cs r).board
  turns_reached cs r h = subst (Reached T.facts) (turns_board T cs r) (reached_after h (turns T cs r))

  -- tops and releases too
  pub opened_reached : (t : ℕ) (r : Run) → Reached T.facts r.board → Reached T.facts (opened T t r).board
  unfolding opened
  opened_reached t r h = reached_after h (tops T t)

  -- so every state of a run has such a board, also past a miss
  pub state_reached : (k : ℕ) → Reached T.facts (state_at T k).board
  unfolding state_at at_first tick board_by
  state_reached zero = record { events = []; is = refl }
  state_reached (suc k) = turns_reached cores (opened T k (state_at T k)) (opened_reached k (state_at T k) (state_reached k))

  -- it meets the conditions for 9
  pub state_good : Fair T.facts → (k : ℕ) → good T.facts (state_at T k).board ≡ true
  state_good f k = reached_good f (state_reached k)

  -- its lists have their lengths
  pub state_shaped : (k : ℕ) → Shaped (state_at T k).board
  state_shaped k = reached_shaped (state_reached k)

  -- and its ceilings are kept
  pub state_ceiled : Fair T.facts → (k : ℕ) → Ceiled T.facts (state_at T k).board
  state_ceiled f k = reached_ceiled f (state_reached k)
