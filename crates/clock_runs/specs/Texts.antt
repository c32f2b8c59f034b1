-- The text of a run: the texts of its ticks one after the other, and the last line; its lines are the events with their answers.
use Prim.Native.Nat.{ℕ, zero, suc, ◌+◌, ◌-◌}
use Rattle.std.specs.Prelude.{◌≡◌}
use Rattle.std.proofs.Math.Path.{refl, sym, ap, ap₂}
use Rattle.std.proofs.Common.{◌∙◌, ⊎_elim, add-one}
use mathlib.Core.List.{List, [], ◌++◌, append_assoc, append-nil}
use native.Mathlib.Omega.{arith}
use Rattle.board_rules.specs.declared.Event.{Event}
use Rattle.clock_rules.specs.declared.RunAnswer.{RunAnswer}
use Rattle.clock_rules.specs.declared.RunAnswer.TheVariants.{Ended, Missed, NoRun}
use Rattle.clock_rules.specs.Clock.{Timing, events_at, trace_from, trace_of, run_of}
use Rattle.clock_rules.specs.Trace.{tick_text, end_line, missed_line, text_from, run_text}
use Rattle.clock_steps.specs.Missed.{FirstMiss, missed_exactly as at_miss}
use Rattle.clock_runs.specs.Misses.{NoMiss, nobody_missed}
use Rattle.clock_runs.specs.Runs.{state_at, Unmissed, unmissed_before, trace_on, trace_next}
use Rattle.clock_runs.specs.Exactly.{MissedAt, ends_in_law, ended_exactly, missed_exactly}

-- TICK AFTER TICK

-- what f gives at tick 0, 1, .. to k - 1, one after the other
unfoldable pub over_ticks : {B : Type 0} → ℕ → (ℕ → List B) → List B
over_ticks zero f = []
over_ticks (suc k) f = over_ticks k f ++ f k

-- the ticks of a run: those before its horizon, or those up to its miss
abbrev pub ticks_run : ℕ → RunAnswer → ℕ
ticks_run h Ended = h
ticks_run h (Missed t v n) = suc t
ticks_run h (NoRun r) = 0

-- the last line of its text
abbrev pub last_line : ℕ → RunAnswer → List ℕ
last_line h Ended = end_line h
last_line h (Missed t v n) = missed_line t v n
last_line h (NoRun r) = []

module _ (T : Timing) where
  -- the events of tick t of the run
  abbrev pub events_of : ℕ → List Event
  events_of t = events_at T t (state_at T t)

  -- and their text
  abbrev pub text_of : ℕ → List ℕ
  text_of t = tick_text T t (state_at T t)

  -- THE TRACE, TICK AFTER TICK, where no tick before k misses
  pub trace_ticks_law : (k : ℕ) → Unmissed T k → trace_of T k ≡ over_ticks k events_of
  unfolding trace_from over_ticks
  trace_ticks_law zero q = refl
  trace_ticks_law (suc k) q = let p = unmissed_before T k q in trace_next T k p ∙ ap (λ es. es ++ events_of k) (trace_ticks_law k p)

  -- it stops at a tick with a miss
  trace_out : (k t v n : ℕ) → FirstMiss T t (state_at T t).done v n → trace_from T (suc k) t (state_at T t) ≡ events_of t ++ []
  unfolding trace_from
  trace_out k t v n m = rw ((at_miss T t (state_at T t).done v n).1 m)

  -- so up to the miss
  trace_missed : (h t v n : ℕ) → MissedAt T h t v n → trace_of T h ≡ over_ticks (suc t) events_of
  unfolding over_ticks
  trace_missed h t v n m =
      let l = m.before_end in
      let e : h ≡ t + suc (h - suc t) = omega arith in
      ap (trace_of T) e ∙ trace_on T t (suc (h - suc t)) m.none_earlier
      ∙ ap₂ ◌++◌ (trace_ticks_law t m.none_earlier) (trace_out (h - suc t) t v n m.first_there ∙ append-nil (events_of t))

  -- the trace of a run is the events of its ticks
  pub run_trace : (h : ℕ) → trace_of T h ≡ over_ticks (ticks_run h (run_of T h)) events_of
  run_trace h =
      ⊎_elim (λ q. rw ((ended_exactly T h).1 q) (trace_ticks_law h q))
      (λ s. rw ((missed_exactly T h s.tick s.vcpu s.task).1 s.is) (trace_missed h s.tick s.vcpu s.task s.is)) (ends_in_law T h)

  -- THE TEXT, TICK AFTER TICK: after a tick without a miss it goes on from the next state
  text_over : (k t : ℕ) → NoMiss T t (state_at T t).done → text_from T (suc k) t (state_at T t) ≡ text_of t ++ text_from T k (suc t) (state_at T (suc t))
  unfolding text_from state_at
  text_over k t h = rw (nobody_missed T t (state_at T t).done h, add-one)

  -- it stops at a tick with a miss
  text_out : (k t v n : ℕ) → FirstMiss T t (state_at T t).done v n → text_from T (suc k) t (state_at T t) ≡ text_of t ++ missed_line t v n
  unfolding text_from
  text_out k t v n m = rw ((at_miss T t (state_at T t).done v n).1 m)

  -- the text of h ticks and k more, where no tick before h misses
  pub text_on : (h k : ℕ) → Unmissed T h → run_text T (h + k) ≡ over_ticks h text_of ++ text_from T k h (state_at T h)
  unfolding over_ticks state_at
  text_on zero k q = let e : 0 + k ≡ k = omega arith in rw e
  text_on (suc h) k q =
      let e : suc h + k ≡ h + suc k = omega arith in
      ap (run_text T) e ∙ text_on h (suc k) (unmissed_before T h q) ∙ ap (λ x. over_ticks h text_of ++ x) (text_over k h (q h (omega arith)))
      ∙ sym (append_assoc (over_ticks h text_of) (text_of h) (text_from T k (suc h) (state_at T (suc h))))

  -- to the horizon
  text_ended : (h : ℕ) → Unmissed T h → run_text T h ≡ over_ticks h text_of ++ end_line h
  unfolding text_from
  text_ended h q = let e : h ≡ h + 0 = omega arith in ap (run_text T) e ∙ text_on h 0 q

  -- up to the miss
  text_missed : (h t v n : ℕ) → MissedAt T h t v n → run_text T h ≡ over_ticks (suc t) text_of ++ missed_line t v n
  unfolding over_ticks
  text_missed h t v n m =
      let l = m.before_end in
      let e : h ≡ t + suc (h - suc t) = omega arith in
      ap (run_text T) e ∙ text_on t (suc (h - suc t)) m.none_earlier ∙ ap (λ x. over_ticks t text_of ++ x) (text_out (h - suc t) t v n m.first_there)
      ∙ sym (append_assoc (over_ticks t text_of) (text_of t) (missed_line t v n))

  -- the text of a run is the texts of its ticks and the last line
  pub run_text_law : (h : ℕ) → run_text T h ≡ over_ticks (ticks_run h (run_of T h)) text_of ++ last_line h (run_of T h)
  run_text_law h =
      ⊎_elim (λ q. rw ((ended_exactly T h).1 q) (text_ended h q))
      (λ s. rw ((missed_exactly T h s.tick s.vcpu s.task).1 s.is) (text_missed h s.tick s.vcpu s.task s.is)) (ends_in_law T h)
