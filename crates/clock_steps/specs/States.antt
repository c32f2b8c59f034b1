-- The states of a run, tick after tick: their boards are those that its events leave, and it ends just where a job is missed first, or at its horizon.
use Prim.Native.Nat.{ℕ, zero, suc, ◌+◌, ◌<◌}
use Rattle.std.specs.Prelude.{◌≡◌, [], ◌++◌, ◌↔◌}
use Rattle.std.proofs.Math.Path.{refl, sym, ap, subst}
use Rattle.std.proofs.Common.{◌∙◌, append_assoc}
use native.Mathlib.Omega.{arith}
use Rattle.board_rules.specs.declared.Next.{Next}
use Rattle.board_rules.specs.declared.Next.TheVariants.{Nobody, To}
use Rattle.board_events.specs.Events.{board_by, board_after}
use Rattle.clock_rules.specs.declared.RunAnswer.TheVariants.{Ended, Missed}
use Rattle.clock_rules.specs.Clock.{Timing, Run, at_first, missed, tick, unless_missed, run_from, run_of, events_at, trace_from}
use Rattle.clock_paced.specs.Paced.{Paced}
use Rattle.clock_steps.specs.Accepted.{board_append}
use Rattle.clock_steps.specs.Missed.{FirstMiss, missed_exactly}
use Rattle.clock_steps.specs.RunTaken.{Kept, tick_board, tick_kept}

-- the state after k ticks, of which t is the first
unfoldable pub state_from : Timing → ℕ → ℕ → Run → Run
state_from T zero t r = r
state_from T (suc k) t r = state_from T k (t + 1) (tick T t r)

-- in none of them is a job missed
abbrev pub Goes : Timing → ℕ → ℕ → Run → Type 0
Goes T zero t r = Unit {0}
Goes T (suc k) t r = (missed T t r.done ≡ Nobody) × Goes T k (t + 1) (tick T t r)

-- what holds of the first state holds of every one
pub states_kept : {T : Timing} → Paced T → (k t : ℕ) {r : Run} → Kept T r → Goes T k t r → Kept T (state_from T k t r)
unfolding state_from
states_kept p zero t g h = g
states_kept p (suc k) t g h = states_kept p k (t + 1) (tick_kept p t g h.0) h.1

-- the events of a tick in which no job is missed, and of those after it
trace_next : (T : Timing) (k t : ℕ) (r : Run) → missed T t r.done ≡ Nobody → trace_from T (suc k) t r ≡ events_at T t r ++ trace_from T k (t + 1) (tick T t r)
unfolding trace_from
trace_next T k t r e = ap (λ x. events_at T t r ++ unless_missed (trace_from T k (t + 1) (tick T t r)) (λ v n. []) x) e

-- every state's board is the one that the events before it leave
pub state_board : (T : Timing) (k t : ℕ) (r : Run) → Goes T k t r → board_after T.facts r.board (trace_from T k t r) ≡ (state_from T k t r).board
unfolding state_from trace_from board_by
state_board T zero t r h = refl
state_board T (suc k) t r h =
    ap (board_after T.facts r.board) (trace_next T k t r h.0)
    ∙ board_append T.facts r.board (events_at T t r) (trace_from T k (t + 1) (tick T t r))
    ∙ ap (λ b. board_after T.facts b (trace_from T k (t + 1) (tick T t r))) (tick_board T t r h.0)
    ∙ state_board T k (t + 1) (tick T t r) h.1

-- and those events begin the trace of a longer run
pub trace_splits : (T : Timing) (k j t : ℕ) (r : Run) → Goes T k t r → trace_from T (k + j) t r ≡ trace_from T k t r ++ trace_from T j (t + k) (state_from T k t r)
unfolding state_from trace_from
trace_splits T zero j t r h = ap (λ i. trace_from T i t r) {x = 0 + j} {y = j} (omega arith) ∙ ap (λ i. trace_from T j i r) {x = t} {y = t + 0} (omega arith)
trace_splits T (suc k) j t r h =
    let u = tick T t r in
    ap (λ i. trace_from T i t r) {x = suc k + j} {y = suc (k + j)} (omega arith)
    ∙ trace_next T (k + j) t r h.0
    ∙ ap (λ es. events_at T t r ++ es) (trace_splits T k j (t + 1) u h.1)
    ∙ sym (append_assoc (events_at T t r) (trace_from T k (t + 1) u) (trace_from T j (t + 1 + k) (state_from T k (t + 1) u)))
    ∙ ap (λ es. es ++ trace_from T j (t + 1 + k) (state_from T k (t + 1) u)) (sym (trace_next T k t r h.0))
    ∙ ap (λ i. trace_from T (suc k) t r ++ trace_from T j i (state_from T k (t + 1) u)) {x = t + 1 + k} {y = t + suc k} (omega arith)

-- HOW A RUN ENDS

-- by a tick in which no job is missed it goes on
run_next : (T : Timing) (k t : ℕ) (r : Run) → missed T t r.done ≡ Nobody → run_from T (suc k) t r ≡ run_from T k (t + 1) (tick T t r)
unfolding run_from
run_next T k t r e = ap (unless_missed (run_from T k (t + 1) (tick T t r)) (λ v n. Missed t v n)) e

-- by one in which (v, n) is, it ends
run_missed : (T : Timing) (k t : ℕ) (r : Run) (v n : ℕ) → missed T t r.done ≡ To v n → run_from T (suc k) t r ≡ Missed t v n
unfolding run_from
run_missed T k t r v n e = ap (unless_missed (run_from T k (t + 1) (tick T t r)) (λ v n. Missed t v n)) e

-- at tick x, one of k from t on, (v, n) is the first to miss, and none has missed before
pub record MissAt (T : Timing) (k t : ℕ) (r : Run) (x v n : ℕ) : Type 0 where
  pub ticks : ℕ
  pub before_end : ticks < k
  pub is_tick : x ≡ t + ticks
  pub goes : Goes T ticks t r
  pub first : FirstMiss T x (state_from T ticks t r).done v n

-- an answer is one of its kinds
not_ended : {x v n : ℕ} → Ended ≡ Missed x v n → ⊥
not_ended e = let z : ◌≡◌ {A = ℕ} 0 1 = cc in omega arith

-- two answers of a miss that are the same are of one tick, VCPU and task
miss_same : {t x v n w j : ℕ} → Missed t w j ≡ Missed x v n → (t ≡ x) × (w ≡ v) × (j ≡ n)
miss_same e = (cc, cc, cc)

module _ (T : Timing) where
  -- a run that ends with a miss
  miss_at : (k t : ℕ) (r : Run) (x v n : ℕ) → run_from T k t r ≡ Missed x v n → MissAt T k t r x v n
  unfolding run_from state_from
  miss_at zero t r x v n e = absurd (not_ended e)
  miss_at (suc k) t r x v n e = at (missed T t r.done) refl (miss_at k (t + 1) (tick T t r) x v n)
    where
      at : (w : Next) → missed T t r.done ≡ w → (run_from T k (t + 1) (tick T t r) ≡ Missed x v n → MissAt T k (t + 1) (tick T t r) x v n) → MissAt T (suc k) t r x v n
      at Nobody q ih =
          let m = ih (sym (run_next T k t r q) ∙ e) in
          let l = m.before_end in
          let i = m.is_tick in
          record { ticks = suc m.ticks; before_end = omega arith; is_tick = omega arith; goes = (q, m.goes); first = m.first }
      at (To w j) q ih =
          let s = miss_same (sym (run_missed T k t r w j q) ∙ e) in
          let f = (missed_exactly T t r.done w j).0 q in
          record {
            ticks = 0;
            before_end = omega arith;
            is_tick = sym s.0 ∙ (omega arith);
            goes = tt;
            first = subst (λ y. FirstMiss T y r.done v n) s.0 (subst (λ y. FirstMiss T t r.done v y) s.2 (subst (λ y. FirstMiss T t r.done y j) s.1 f));
          }

  -- where one is missed, the run ends with it
  at_miss : (k t : ℕ) (r : Run) (x v n i : ℕ) → i < k → x ≡ t + i → Goes T i t r → FirstMiss T x (state_from T i t r).done v n → run_from T k t r ≡ Missed x v n
  unfolding state_from
  at_miss zero t r x v n i l e h f = absurd (omega arith)
  at_miss (suc k) t r x v n zero l e h f =
      let z : x ≡ t = omega arith in
      run_missed T k t r v n ((missed_exactly T t r.done v n).1 (subst (λ y. FirstMiss T y r.done v n) z f)) ∙ ap (λ y. Missed y v n) (sym z)
  at_miss (suc k) t r x v n (suc i) l e h f = run_next T k t r h.0 ∙ at_miss k (t + 1) (tick T t r) x v n i (omega arith) (omega arith) h.1 f

  -- A RUN IS MISSED exactly where a job is, before its horizon
  pub run_missed_exactly : (k t : ℕ) (r : Run) (x v n : ℕ) → (run_from T k t r ≡ Missed x v n) ↔ MissAt T k t r x v n
  run_missed_exactly k t r x v n = (miss_at k t r x v n, λ m. at_miss k t r x v n m.ticks m.before_end m.is_tick m.goes m.first)

  -- A RUN ENDS AT ITS HORIZON exactly where no job is missed before it
  pub run_ended_exactly : (k t : ℕ) (r : Run) → (run_from T k t r ≡ Ended) ↔ Goes T k t r
  run_ended_exactly k t r = (to k t r, from k t r)
    where
      to : (k t : ℕ) (r : Run) → run_from T k t r ≡ Ended → Goes T k t r
      to zero t r e = tt
      to (suc k) t r e = at (missed T t r.done) refl (to k (t + 1) (tick T t r))
        where
          at : (w : Next) → missed T t r.done ≡ w → (run_from T k (t + 1) (tick T t r) ≡ Ended → Goes T k (t + 1) (tick T t r)) → Goes T (suc k) t r
          at Nobody q ih = (q, ih (sym (run_next T k t r q) ∙ e))
          at (To v n) q ih = absurd (not_ended (sym e ∙ run_missed T k t r v n q))

      from : (k t : ℕ) (r : Run) → Goes T k t r → run_from T k t r ≡ Ended
      from zero t r h = unfold run_from in refl
      from (suc k) t r h = run_next T k t r h.0 ∙ from k (t + 1) (tick T t r) h.1

-- THE RUN FROM TICK 0

-- `missed x v n` exactly: x is before the horizon, no job is missed before x, and at x (v, n) is the first to miss
pub missed_run : (T : Timing) (h x v n : ℕ) →
    (run_of T h ≡ Missed x v n) ↔ ((x < h) × Goes T x 0 (at_first T) × FirstMiss T x (state_from T x 0 (at_first T)).done v n)
missed_run T h x v n = (
  λ e.
      let m = (run_missed_exactly T h 0 (at_first T) x v n).0 e in
      let z : m.ticks ≡ x = let i = m.is_tick in omega arith in
      let l = m.before_end in
      (omega arith, subst (λ y. Goes T y 0 (at_first T)) z m.goes, subst (λ y. FirstMiss T x (state_from T y 0 (at_first T)).done v n) z m.first),
  λ m. (run_missed_exactly T h 0 (at_first T) x v n).1 (record { ticks = x; before_end = m.0; is_tick = omega arith; goes = m.1; first = m.2 }),
)

-- `ended` exactly otherwise
pub ended_run : (T : Timing) (h : ℕ) → (run_of T h ≡ Ended) ↔ Goes T h 0 (at_first T)
ended_run T h = run_ended_exactly T h 0 (at_first T)
