-- The lines of a run's text are the events of its trace, each with its tick before it and its answer behind it.
use Prim.Native.Nat.{ℕ, zero, suc}
use Rattle.std.specs.Prelude.{◌≡◌, length, replicate}
use Rattle.std.proofs.Math.Path.{refl, sym, ap, ap₂}
use Rattle.std.proofs.Common.{◌∙◌, ⊎_elim, arith}
use mathlib.Core.List.{List, [], ◌∷◌, ◌++◌}
use Rattle.std.proofs.Math.ListN.{length-append, length-replicate}
use Rattle.laws.specs.Sums.{flat}
use Rattle.laws.specs.SumLaws.{flat_append}
use Rattle.board_rules.specs.Facts.{Facts}
use Rattle.board_rules.specs.declared.Board.{Board}
use Rattle.board_rules.specs.declared.Event.{Event}
use Rattle.board_rules.specs.declared.BoardAnswer.{BoardAnswer}
use Rattle.board_rules.specs.Board.{fresh, step}
use Rattle.board_events.specs.Events.{answers, answers_by, board_after}
use Rattle.board_events.proofs.PrintedLaws.{answers_long}
use Rattle.clock_rules.specs.Clock.{Timing, trace_of, trace_answers, run_of}
use Rattle.clock_rules.specs.Trace.{event_line, lines_at, tick_text, run_text}
use Rattle.clock_runs.specs.Runs.{answers_append, state_at, Unmissed, unmissed_before, state_board}
use Rattle.clock_runs.specs.Exactly.{ends_in_law, ended_exactly, missed_exactly}
use Rattle.clock_runs.specs.Texts.{over_ticks, ticks_run, last_line, events_of, text_of, trace_ticks_law, run_trace, run_text_law}

-- a tick, an event, and its answer
pub record Told : Type 0 where
  pub tick : ℕ
  pub event : Event
  pub answer : BoardAnswer

-- its line
abbrev pub told_line : Told → List ℕ
told_line x = event_line x.tick x.event x.answer

-- three lists side by side
unfoldable pub besides : List ℕ → List Event → List BoardAnswer → List Told
besides [] es xs = []
besides (t ∷ ts) [] xs = []
besides (t ∷ ts) (e ∷ es) [] = []
besides (t ∷ ts) (e ∷ es) (x ∷ xs) = record { tick = t; event = e; answer = x } ∷ besides ts es xs

-- two threes of lists, each of one length, one after the other
besides_append : (ts : List ℕ) (es : List Event) (xs : List BoardAnswer) (us : List ℕ) (fs : List Event) (ys : List BoardAnswer) →
    length ts ≡ length es → length xs ≡ length es → besides (ts ++ us) (es ++ fs) (xs ++ ys) ≡ besides ts es xs ++ besides us fs ys
unfolding besides
besides_append [] [] [] us fs ys a b = refl
besides_append [] [] (x ∷ xs) us fs ys a b = absurd (omega arith)
besides_append [] (e ∷ es) xs us fs ys a b = absurd (omega arith)
besides_append (t ∷ ts) [] xs us fs ys a b = absurd (omega arith)
besides_append (t ∷ ts) (e ∷ es) [] us fs ys a b = absurd (omega arith)
besides_append (t ∷ ts) (e ∷ es) (x ∷ xs) us fs ys a b =
    ap (λ zs. record { tick = t; event = e; answer = x } ∷ zs) (besides_append ts es xs us fs ys (omega arith) (omega arith))

-- the tick t, once for each event
abbrev pub each_at : ℕ → List Event → List ℕ
each_at t es = replicate (length es) t

-- THE LINES OF ONE TICK are its events with the tick and their answers
lines_told : (F : Facts) (t : ℕ) (b : Board) (es : List Event) → lines_at F t b es ≡ flat told_line (besides (each_at t es) es (answers F b es))
unfolding lines_at besides flat answers_by
lines_told F t b [] = refl
lines_told F t b (e ∷ es) = ap (λ x. event_line t e (step F b e).answer ++ x) (lines_told F t (step F b e).board es)

module _ (T : Timing) where
  -- the tick of each event of the trace
  abbrev pub trace_ticks : ℕ → List ℕ
  trace_ticks h = over_ticks (ticks_run h (run_of T h)) (λ t. each_at t (events_of T t))

  -- as many ticks as events in k ticks
  ticks_long : (k : ℕ) → length (over_ticks k (λ t. each_at t (events_of T t))) ≡ length (over_ticks k (events_of T))
  unfolding over_ticks
  ticks_long zero = refl
  ticks_long (suc k) =
      let ih = ticks_long k in
      let e = length-replicate (length (events_of T k)) k in
      simp length-append (omega arith)

  -- as many ticks as events in the trace
  pub trace_ticks_long : (h : ℕ) → length (trace_ticks h) ≡ length (trace_of T h)
  trace_ticks_long h = ticks_long (ticks_run h (run_of T h)) ∙ ap length (sym (run_trace T h))

  -- and as many answers
  pub trace_answers_long : (h : ℕ) → length (trace_answers T h) ≡ length (trace_of T h)
  trace_answers_long h = answers_long T.facts (fresh T.facts) (trace_of T h)

  -- THE LINES OF k TICKS are so
  abbrev LinesOf : ℕ → Type 0
  LinesOf k =
      over_ticks k (text_of T)
      ≡ flat told_line (besides (over_ticks k (λ t. each_at t (events_of T t))) (over_ticks k (events_of T)) (answers T.facts (fresh T.facts) (over_ticks k (events_of T))))

  -- the answers to one tick more
  answers_next : (k : ℕ) → Unmissed T k →
      answers T.facts (fresh T.facts) (over_ticks k (events_of T) ++ events_of T k)
      ≡ answers T.facts (fresh T.facts) (over_ticks k (events_of T)) ++ answers T.facts (state_at T k).board (events_of T k)
  answers_next k q =
      let F = T.facts in
      let es = over_ticks k (events_of T) in
      answers_append F (fresh F) es (events_of T k)
      ∙ ap (λ b. answers F (fresh F) es ++ answers F b (events_of T k)) (sym (state_board T k q ∙ ap (board_after F (fresh F)) (trace_ticks_law T k q)))

  -- of one tick more
  lines_next : (k : ℕ) → Unmissed T k → LinesOf k → LinesOf (suc k)
  unfolding over_ticks tick_text
  lines_next k q h =
      let F = T.facts in
      let es = over_ticks k (events_of T) in
      let ts = over_ticks k (λ t. each_at t (events_of T t)) in
      let xs = answers F (fresh F) es in
      let fs = events_of T k in
      let us = each_at k fs in
      let ys = answers F (state_at T k).board fs in
      ap₂ ◌++◌ h (lines_told F k (state_at T k).board fs)
      ∙ sym (flat_append told_line (besides ts es xs) (besides us fs ys))
      ∙ ap (flat told_line) (sym (besides_append ts es xs us fs ys (ticks_long k) (answers_long F (fresh F) es)))
      ∙ ap (λ zs. flat told_line (besides (ts ++ us) (es ++ fs) zs)) (sym (answers_next k q))

  -- of k ticks, where no tick before k misses
  lines_all : (k : ℕ) → Unmissed T k → LinesOf k
  unfolding over_ticks besides flat
  lines_all zero q = refl
  lines_all (suc k) q = let p = unmissed_before T k q in lines_next k p (lines_all k p)

  -- of the ticks of a run
  lines_run : (h : ℕ) → LinesOf (ticks_run h (run_of T h))
  lines_run h =
      ⊎_elim (λ q. rw ((ended_exactly T h).1 q) (lines_all h q))
      (λ s. let m = s.is in
      rw ((missed_exactly T h s.tick s.vcpu s.task).1 m) (lines_next s.tick m.none_earlier (lines_all s.tick m.none_earlier))) (ends_in_law T h)

  -- THE TEXT OF A RUN is a line for each event of its trace, with its tick and its answer, and the last line
  pub run_lines : (h : ℕ) → run_text T h ≡ flat told_line (besides (trace_ticks h) (trace_of T h) (trace_answers T h)) ++ last_line h (run_of T h)
  run_lines h =
      let F = T.facts in
      run_text_law T h
      ∙ ap (λ x. x ++ last_line h (run_of T h)) (lines_run h ∙ ap (λ es. flat told_line (besides (trace_ticks h) es (answers F (fresh F) es))) (sym (run_trace T h)))
