-- No event of a run is refused.
use Prim.Native.Nat.{ℕ, zero, suc, ◌+◌}
use Rattle.std.specs.Prelude.{◌≡◌}
use Rattle.std.proofs.Math.Path.{refl, subst}
use Rattle.std.proofs.Common.{sym, ap, ◌∙◌}
use mathlib.Core.List.{List, [], ◌∷◌, ◌++◌}
use Rattle.plan.specs.Plan.{Plan}
use Rattle.plan.specs.Valid.{Valid}
use Rattle.figures.specs.System.{system}
use Rattle.board_rules.specs.declared.Next.{Next}
use Rattle.board_rules.specs.declared.Next.TheVariants.{Nobody, To}
use Rattle.board_rules.specs.Board.{fresh}
use Rattle.board_events.specs.Events.{board_by, board_after}
use Rattle.clock_rules.specs.Clock.{Timing, timing_of, Run, at_first, tops, missed, most_picks, asks_at, asked, idle_uses, work, work_done, turn, after_turn, cores, turns, after_turns, opened, tick, unless_missed, events_at, trace_from, trace_of}
use Rattle.clock_paced.specs.Paced.{Paced}
use Rattle.clock_paced.specs.PacedLaws.{paced}
use Rattle.clock_steps.specs.Accepted.{Accepted, board_append, accepted_append}
use Rattle.clock_steps.specs.Running.{Running, first_running, tops_accepted, opened_running}
use Rattle.clock_steps.specs.Asking.{asking}
use Rattle.clock_steps.specs.AskTurn.{AsksTaken, asks_taken}
use Rattle.clock_steps.specs.IdleTurn.{idle_accepted}
use Rattle.clock_steps.specs.WorkTurn.{idle_working, idle_running, work_accepted, work_running}

-- what holds of every state of a run
abbrev pub Kept : Timing → Run → Type 0
Kept T r = Running T r.board r.done

module _ {T : Timing} (p : Paced T) where
  -- A CORE'S TURN
  module _ (c : ℕ) {r : Run} (g : Kept T r) where
    -- its asks are taken
    turn_asks : AsksTaken T c r.board r.done (asks_at T c r)
    turn_asks = asks_taken p c r.done g (asking T c r.done most_picks r.board)

    -- none of its events is refused
    pub turn_accepted : Accepted T.facts r.board (turn T c r)
    unfolding turn
    turn_accepted =
        let F = T.facts in
        let d = r.done in
        let t = turn_asks in
        let a = asks_at T c r in
        let b = asked T c r in
        accepted_append F r.board a.events (idle_uses T c b d ++ work T d a.pick) t.accepted
        (accepted_append F b (idle_uses T c b d) (work T d a.pick) (idle_accepted p c t.running)
        (work_accepted p c (idle_running p c t.running) a.pick (idle_working p c t.running a.pick t.working)))

    -- and the state after it is such as before
    pub turn_kept : Kept T (after_turn T c r)
    unfolding after_turn turn
    turn_kept =
        let F = T.facts in
        let d = r.done in
        let t = turn_asks in
        let a = asks_at T c r in
        let b = asked T c r in
        subst (λ x. Running T x (work_done d a.pick))
        (sym (board_append F r.board a.events (idle_uses T c b d ++ work T d a.pick) ∙ board_append F b (idle_uses T c b d) (work T d a.pick)))
        (work_running p c (idle_running p c t.running) a.pick (idle_working p c t.running a.pick t.working))

  -- ALL CORES
  pub turns_accepted : (cs : List ℕ) {r : Run} → Kept T r → Accepted T.facts r.board (turns T cs r)
  unfolding turns after_turn
  turns_accepted [] g = tt
  turns_accepted (c ∷ cs) {r} g = accepted_append T.facts r.board (turn T c r) (turns T cs (after_turn T c r)) (turn_accepted c g) (turns_accepted cs (turn_kept c g))

  -- the state after them all
  pub turns_kept : (cs : List ℕ) {r : Run} → Kept T r → Kept T (after_turns T cs r)
  unfolding after_turns
  turns_kept [] g = g
  turns_kept (c ∷ cs) g = turns_kept cs (turn_kept c g)

-- the board after the turns is the one that their events leave
pub turns_board : (T : Timing) (cs : List ℕ) (r : Run) → board_after T.facts r.board (turns T cs r) ≡ (after_turns T cs r).board
unfolding turns after_turns after_turn board_by
turns_board T [] r = refl
turns_board T (c ∷ cs) r = board_append T.facts r.board (turn T c r) (turns T cs (after_turn T c r)) ∙ turns_board T cs (after_turn T c r)

-- so the board after a tick is the one that its events leave, where no job is missed
pub tick_board : (T : Timing) (t : ℕ) (r : Run) → missed T t r.done ≡ Nobody → board_after T.facts r.board (events_at T t r) ≡ (tick T t r).board
unfolding events_at tick opened
tick_board T t r e =
    ap (λ x. board_after T.facts r.board (tops T t ++ unless_missed (turns T cores (opened T t r)) (λ v n. []) x)) e
    ∙ board_append T.facts r.board (tops T t) (turns T cores (opened T t r)) ∙ turns_board T cores (opened T t r)

module _ {T : Timing} (p : Paced T) where
  -- A TICK in which no job is missed
  module _ (t : ℕ) {r : Run} (g : Kept T r) (none : missed T t r.done ≡ Nobody) where
    -- the state when its tops and releases are done
    pub opened_kept : Kept T (opened T t r)
    unfolding opened
    opened_kept = opened_running p t g none

    -- the state when its cores are
    pub tick_kept : Kept T (tick T t r)
    unfolding tick
    tick_kept = turns_kept p cores opened_kept

  -- no event of a tick is refused
  pub tick_accepted : (t : ℕ) {r : Run} → Kept T r → Accepted T.facts r.board (events_at T t r)
  unfolding events_at opened
  tick_accepted t {r} g = at (missed T t r.done) refl
    where
      at : (x : Next) → missed T t r.done ≡ x → Accepted T.facts r.board (tops T t ++ unless_missed (turns T cores (opened T t r)) (λ v n. []) x)
      at Nobody e = accepted_append T.facts r.board (tops T t) (turns T cores (opened T t r)) (tops_accepted T t r.board) (turns_accepted p cores (opened_kept t g e))
      at (To v n) e = accepted_append T.facts r.board (tops T t) [] (tops_accepted T t r.board) tt

  -- THE RUN
  pub trace_accepted : (k t : ℕ) {r : Run} → Kept T r → Accepted T.facts r.board (trace_from T k t r)
  unfolding trace_from
  trace_accepted zero t g = tt
  trace_accepted (suc k) t {r} g =
      accepted_append T.facts r.board (events_at T t r) (unless_missed (trace_from T k (t + 1) (tick T t r)) (λ v n. []) (missed T t r.done)) (tick_accepted t g)
      (rest (missed T t r.done) refl (trace_accepted k (t + 1)))
    where
      rest : (x : Next) → missed T t r.done ≡ x → (Kept T (tick T t r) → Accepted T.facts (tick T t r).board (trace_from T k (t + 1) (tick T t r))) →
          Accepted T.facts (board_after T.facts r.board (events_at T t r)) (unless_missed (trace_from T k (t + 1) (tick T t r)) (λ v n. []) x)
      rest Nobody e ih = subst (λ b. Accepted T.facts b (trace_from T k (t + 1) (tick T t r))) (sym (tick_board T t r e)) (ih (tick_kept t g e))
      rest (To v n) e ih = tt

  -- from tick 0 on
  pub run_accepted : (h : ℕ) → Accepted T.facts (fresh T.facts) (trace_of T h)
  unfolding at_first
  run_accepted h = trace_accepted h 0 (first_running p)

-- THE THEOREM: no event of a run of a valid plan is refused
pub valid_accepted : (p : Plan) → Valid p → (h : ℕ) → let T = timing_of (system p) in Accepted T.facts (fresh T.facts) (trace_of T h)
valid_accepted p v h = run_accepted (paced p v) h
