-- A core's turn in its three parts: the asks, the idle uses, and the work of who was picked.
use Rattle.std.specs.Prelude.{ℕ, zero, suc, ◌≡◌, refl, List, [], ◌∷◌, ◌++◌, Bool, false}
use Rattle.std.proofs.Common.{sym, subst, ◌∙◌, arith}
use Rattle.std.proofs.Math.Path.{ap, ap₂}
use Rattle.std.specs.Prelude.{if◌then◌else◌}
use Rattle.laws.specs.Range.{flat_to}
use Rattle.plan.specs.Limits.{max_v}
use Rattle.plan.specs.declared.Policy.{Policy}
use Rattle.plan.specs.declared.OverrunChoice.{OverrunChoice}
use Rattle.board_rules.specs.declared.Board.{Board}
use Rattle.board_rules.specs.declared.Event.{Event}
use Rattle.board_rules.specs.declared.Next.{Next}
use Rattle.board_rules.specs.declared.Next.TheVariants.{Nobody, To}
use Rattle.board_rules.specs.declared.Event.TheVariants.{Use}
use Rattle.board_rules.specs.Board.{under_p, next_of}
use Rattle.board_rules.specs.View.{facts_in}
use Rattle.board_events.specs.Events.{answers, board_after}
use Rattle.clock_rules.specs.Clock.{Timing, Run, most_picks, asks_at, asked, idles, idle_uses, work, work_done, turn, after_turn}
use Rattle.clock_rules.specs.Trace.{lines_at}
use Rattle.clock_times.specs.Times.{timing_in}
use Rattle.clock_marks.specs.Marks.{board_of, run_in, done_in}
use Rattle.clock_paced.specs.Paced.{Paced}
use Rattle.clock_steps.specs.Running.{Running}
use Rattle.clock_steps.specs.Asking.{asking}
use Rattle.clock_steps.specs.AskTurn.{Working, asks_taken}
use Rattle.clock_steps.specs.WorkTurn.{idle_working}
use Rattle.clock_lines.specs.Told.{RoomAt}
use Rattle.clock_steps.specs.Hands.{any_hands_on}
use Rattle.clock_going.specs.Going.{timing_by, Going, Made}
use Rattle.clock_asks.specs.Asked.{Asked}
use Rattle.board_rules.specs.BoardLaws.{next_none, next_some}
use Rattle.clock_uses.specs.Making.{made_none, made_then, room_begin, room_then}
use Rattle.clock_works.specs.Worked.{WorkerOn}
use Rattle.clock_works.specs.Handing.{asks_no_frees, idle_no_frees, hands_after, none_hands}
use Rattle.clock_turns.specs.Turned.{Turned, Did, Uses}

-- UNDER D nobody loses a tick

-- where nobody gives anything, nothing comes of it
flat_none : {B : Type 0} (n : ℕ) (f : ℕ → List B) → ((j : ℕ) → f j ≡ []) → flat_to n f ≡ []
unfolding flat_to
flat_none zero f h = refl
flat_none (suc n) f h = ap₂ (λ x y. x ++ y) (flat_none n f h) (h (suc n))

pub idle_nobody : (T : Timing) (c : ℕ) (b : Board) (d : List ℕ) → under_p T.facts.policy ≡ false → idle_uses T c b d ≡ []
unfolding idle_uses
idle_nobody T c b d e = flat_none max_v (λ v. if idles T c b d v then Use v 1 ∷ [] else []) (λ v. rw e)

-- A TURN, from the state r on: there is room for all its lines
module _ (T : Timing) (on : Bool) (i c : ℕ) (r : Run) (o : List ℕ) (at : ℕ) (h : RoomAt on (lines_at T.facts i r.board (turn T c r)) o at) where
  -- there is room for the asks
  pub asks_fit : RoomAt on (lines_at T.facts i r.board (asks_at T c r).events) o at
  unfolding turn
  asks_fit = room_begin T.facts on i r (asks_at T c r).events (idle_uses T c (asked T c r) r.done ++ work T r.done (asks_at T c r).pick) o at h

  -- AFTER THE ASKS: r₁ is the state, and y who uses the tick
  module _ {r₁ : Run} {o₁ : List ℕ} {w₁ : ℕ} (m₁ : Made T.facts on i r r₁ (asks_at T c r).events o at o₁ w₁) (d₁ : r₁.done ≡ r.done) {y : Next} (e : y ≡ (asks_at T c r).pick) where
    turn_is : turn T c r ≡ (asks_at T c r).events ++ (idle_uses T c r₁.board r₁.done ++ work T r₁.done y)
    unfolding turn
    turn_is =
        ap (λ b. (asks_at T c r).events ++ (idle_uses T c b r.done ++ work T r.done (asks_at T c r).pick)) (sym m₁.board)
        ∙ ap (λ d. (asks_at T c r).events ++ (idle_uses T c r₁.board d ++ work T d (asks_at T c r).pick)) (sym d₁)
        ∙ ap (λ z. (asks_at T c r).events ++ (idle_uses T c r₁.board r₁.done ++ work T r₁.done z)) (sym e)

    turn_fits : RoomAt on (lines_at T.facts i r.board ((asks_at T c r).events ++ (idle_uses T c r₁.board r₁.done ++ work T r₁.done y))) o at
    turn_fits = subst (λ es. RoomAt on (lines_at T.facts i r.board es) o at) turn_is h

    rest_fits : RoomAt on (lines_at T.facts i r₁.board (idle_uses T c r₁.board r₁.done ++ work T r₁.done y)) o₁ w₁
    rest_fits = room_then T.facts on i r (asks_at T c r).events (idle_uses T c r₁.board r₁.done ++ work T r₁.done y) o at turn_fits m₁

    -- there is room for the idle uses
    pub idle_fits : RoomAt on (lines_at T.facts i r₁.board (idle_uses T c r₁.board r₁.done)) o₁ w₁
    idle_fits = room_begin T.facts on i r₁ (idle_uses T c r₁.board r₁.done) (work T r₁.done y) o₁ w₁ rest_fits

    -- AFTER THE IDLE USES
    module _ {r₂ : Run} {o₂ : List ℕ} {w₂ : ℕ} (m₂ : Made T.facts on i r₁ r₂ (idle_uses T c r₁.board r₁.done) o₁ w₁ o₂ w₂) (d₂ : r₂.done ≡ r₁.done) where
      -- there is room for the work
      pub work_fits : RoomAt on (lines_at T.facts i r₂.board (work T r₂.done y)) o₂ w₂
      work_fits =
          subst (λ d. RoomAt on (lines_at T.facts i r₂.board (work T d y)) o₂ w₂) (sym d₂)
          (room_then T.facts on i r₁ (idle_uses T c r₁.board r₁.done) (work T r₁.done y) o₁ w₁ rest_fits m₂)

      -- who was picked may use the tick
      pub still_works : Paced T → Running T r.board r.done → Running T r₁.board r₁.done → Working T c r₂.board r₂.done y
      still_works p g g₁ =
          let w = (asks_taken p c r.done g (asking T c r.done most_picks r.board)).working in
          let w₁ : Working T c r₁.board r₁.done y =
          subst (λ b. Working T c b r₁.done y) (sym m₁.board)
          (subst (λ d. Working T c (asked T c r) d y) (sym d₁) (subst (λ z. Working T c (asked T c r) r.done z) (sym e) w)) in
          subst (λ b. Working T c b r₂.done y) (sym m₂.board)
          (subst (λ d. Working T c (board_after T.facts r₁.board (idle_uses T c r₁.board r₁.done)) d y) (sym d₂) (idle_working p c g₁ y w₁))

      -- whether a mutex was handed on is what the work says
      pub turn_hands : {hands : Bool} → hands ≡ any_hands_on (answers T.facts r₂.board (work T r₂.done y)) → hands ≡ any_hands_on (answers T.facts r.board (turn T c r))
      turn_hands q =
          let F = T.facts in
          q ∙ ap (λ d. any_hands_on (answers F r₂.board (work T d y))) d₂
          ∙ sym (hands_after F r₁.board r₂.board (idle_uses T c r₁.board r₁.done) (work T r₁.done y) (idle_no_frees T c r₁.board r₁.done) m₂.board)
          ∙ sym (hands_after F r.board r₁.board (asks_at T c r).events (idle_uses T c r₁.board r₁.done ++ work T r₁.done y) (asks_no_frees (asking T c r.done most_picks r.board)) m₁.board)
          ∙ ap (λ es. any_hands_on (answers F r.board es)) (sym turn_is)

      -- AFTER THE WORK
      module _ {r₃ : Run} {o₃ : List ℕ} {w₃ : ℕ} (m₃ : Made T.facts on i r₂ r₃ (work T r₂.done y) o₂ w₂ o₃ w₃) (d₃ : r₃.done ≡ work_done r₂.done y) where
        -- all events of the turn are made and told
        pub turn_made : Made T.facts on i r r₃ (turn T c r) o at o₃ w₃
        turn_made =
            subst (λ es. Made T.facts on i r r₃ es o at o₃ w₃) (sym turn_is)
            (made_then T.facts on i r (asks_at T c r).events (idle_uses T c r₁.board r₁.done ++ work T r₁.done y) o at turn_fits m₁
            (made_then T.facts on i r₁ (idle_uses T c r₁.board r₁.done) (work T r₁.done y) o₁ w₁ rest_fits m₂
            (subst (λ d. Made T.facts on i r₂ r₃ (work T d y) o₂ w₂ o₃ w₃) d₂ m₃)))

        -- the ticks done
        turn_done : r₃.done ≡ work_done r.done (asks_at T c r).pick
        turn_done = d₃ ∙ ap (λ d. work_done d y) (d₂ ∙ d₁) ∙ ap (work_done r.done) e

        -- and the state is the one after the turn
        pub turn_after : r₃ ≡ after_turn T c r
        unfolding after_turn
        turn_after = ap₂ (λ b d. record { board = b; done = d }) turn_made.board turn_done

-- WHO USES THE TICK
module _ {T : Timing} {b : Board} {d : List ℕ} {v n : ℕ} (u : Uses T b d v n) where
  -- nobody
  pub uses_nobody : v ≡ 0 → next_of v n ≡ Nobody
  uses_nobody z = next_none v n (u.nobody z)

  module _ (nz : v ≡ 0 → ⊥) where
    has_number : n ≡ 0 → ⊥
    has_number z = let l = u.somebody (omega arith) in omega arith

    -- task (v, n)
    pub uses_some : next_of v n ≡ To v n
    uses_some = next_some v n has_number

    pub uses_worker : WorkerOn T b d v n
    uses_worker = record { core = u.core; worker = subst (Working T u.core b d) uses_some u.working }

-- AS THE LISTS SAY IT
module _ {p : Policy} {a : OverrunChoice} {t x ls os : List ℕ} {ss : List Bool} {hs ws k : List ℕ} (g : Going p a t x ls os ss hs ws k) (on : Bool) (i : ℕ) (o : List ℕ) (at : ℕ) where
  did_nothing : (es : List Event) → es ≡ [] → Did p a t x on i (run_in ls os ss hs ws k) es (done_in k) ls os ss hs ws k o at o at
  did_nothing es e = record {
    going = g;
    made = subst (λ l. Made (facts_in p a t) on i (run_in ls os ss hs ws k) (run_in ls os ss hs ws k) l o at o at) (sym e) (made_none (facts_in p a t) on i (run_in ls os ss hs ws k) (run_in ls os ss hs ws k) o at refl);
    done = refl;
  }

  -- under D no tick is lost
  pub none_lost : (c : ℕ) → under_p p ≡ false → Did p a t x on i (run_in ls os ss hs ws k) (idle_uses (timing_by p a t x) c (board_of ls os ss hs ws) (done_in k)) (done_in k) ls os ss hs ws k o at o at
  unfolding timing_in facts_in
  none_lost c e = did_nothing _ (idle_nobody (timing_by p a t x) c (board_of ls os ss hs ws) (done_in k) e)

  module _ {v n : ℕ} (u : Uses (timing_by p a t x) (board_of ls os ss hs ws) (done_in k) v n) where
    -- nobody works
    pub none_works : v ≡ 0 → Did p a t x on i (run_in ls os ss hs ws k) (work (timing_by p a t x) (done_in k) (next_of v n)) (work_done (done_in k) (next_of v n)) ls os ss hs ws k o at o at
    none_works z =
        let e = sym (uses_nobody u z) in
        subst (λ y. Did p a t x on i (run_in ls os ss hs ws k) (work (timing_by p a t x) (done_in k) y) (work_done (done_in k) y) ls os ss hs ws k o at o at) e (did_nothing [] refl)

    -- who hands nothing on
    pub none_works_hands : v ≡ 0 → false ≡ any_hands_on (answers (facts_in p a t) (board_of ls os ss hs ws) (work (timing_by p a t x) (done_in k) (next_of v n)))
    none_works_hands z = none_hands (facts_in p a t) (board_of ls os ss hs ws) _ (ap (work (timing_by p a t x) (done_in k)) (uses_nobody u z))

    -- what is ensured where nobody works
    pub none_ends : v ≡ 0 →
        Did p a t x on i (run_in ls os ss hs ws k) (work (timing_by p a t x) (done_in k) (next_of v n)) (work_done (done_in k) (next_of v n)) ls os ss hs ws k o at o at
        × (false ≡ any_hands_on (answers (facts_in p a t) (board_of ls os ss hs ws) (work (timing_by p a t x) (done_in k) (next_of v n))))
    none_ends z = (none_works z, none_works_hands z)

    module _ (nz : v ≡ 0 → ⊥) where
      -- (v, n) hands on what its work does
      pub one_works_hands : {hands : Bool} → hands ≡ any_hands_on (answers (facts_in p a t) (board_of ls os ss hs ws) (work (timing_by p a t x) (done_in k) (To v n))) →
          hands ≡ any_hands_on (answers (facts_in p a t) (board_of ls os ss hs ws) (work (timing_by p a t x) (done_in k) (next_of v n)))
      one_works_hands e = e ∙ ap (λ y. any_hands_on (answers (facts_in p a t) (board_of ls os ss hs ws) (work (timing_by p a t x) (done_in k) y))) (sym (uses_some u nz))

      -- there is room for the work of (v, n)
      pub work_room : RoomAt on (lines_at (facts_in p a t) i (board_of ls os ss hs ws) (work (timing_by p a t x) (done_in k) (next_of v n))) o at →
          RoomAt on (lines_at (facts_in p a t) i (board_of ls os ss hs ws) (work (timing_by p a t x) (done_in k) (To v n))) o at
      work_room = subst (λ y. RoomAt on (lines_at (facts_in p a t) i (board_of ls os ss hs ws) (work (timing_by p a t x) (done_in k) y)) o at) (uses_some u nz)

      -- (v, n) works
      pub one_works : {ls' os' : List ℕ} {ss' : List Bool} {hs' ws' k' o' : List ℕ} {w : ℕ} → Going p a t x ls' os' ss' hs' ws' k' →
          Made (facts_in p a t) on i (run_in ls os ss hs ws k) (run_in ls' os' ss' hs' ws' k') (work (timing_by p a t x) (done_in k) (To v n)) o at o' w → done_in k' ≡ work_done (done_in k) (To v n) →
          Did p a t x on i (run_in ls os ss hs ws k) (work (timing_by p a t x) (done_in k) (next_of v n)) (work_done (done_in k) (next_of v n)) ls' os' ss' hs' ws' k' o at o' w
      one_works {ls'} {os'} {ss'} {hs'} {ws'} {k'} {o'} {w} g' m d =
          subst (λ y. Did p a t x on i (run_in ls os ss hs ws k) (work (timing_by p a t x) (done_in k) y) (work_done (done_in k) y) ls' os' ss' hs' ws' k' o at o' w) (sym (uses_some u nz))
          (record { going = g'; made = m; done = d })

      -- what is ensured where (v, n) works
      pub one_ends : {ls' os' : List ℕ} {ss' : List Bool} {hs' ws' k' o' : List ℕ} {w : ℕ} → Going p a t x ls' os' ss' hs' ws' k' →
          Made (facts_in p a t) on i (run_in ls os ss hs ws k) (run_in ls' os' ss' hs' ws' k') (work (timing_by p a t x) (done_in k) (To v n)) o at o' w → done_in k' ≡ work_done (done_in k) (To v n) →
          {hands : Bool} → hands ≡ any_hands_on (answers (facts_in p a t) (board_of ls os ss hs ws) (work (timing_by p a t x) (done_in k) (To v n))) →
          Did p a t x on i (run_in ls os ss hs ws k) (work (timing_by p a t x) (done_in k) (next_of v n)) (work_done (done_in k) (next_of v n)) ls' os' ss' hs' ws' k' o at o' w
          × (hands ≡ any_hands_on (answers (facts_in p a t) (board_of ls os ss hs ws) (work (timing_by p a t x) (done_in k) (next_of v n))))
      one_ends g' m d e = (one_works g' m d, one_works_hands e)

      -- what the work requires
      pub one_may : RoomAt on (lines_at (facts_in p a t) i (board_of ls os ss hs ws) (work (timing_by p a t x) (done_in k) (next_of v n))) o at →
          (Going p a t x ls os ss hs ws k × WorkerOn (timing_by p a t x) (board_of ls os ss hs ws) (done_in k) v n)
          × RoomAt on (lines_at (facts_in p a t) i (board_of ls os ss hs ws) (work (timing_by p a t x) (done_in k) (To v n))) o at
      one_may h = ((g, uses_worker u nz), work_room h)

  -- core c's turn: there is room for its lines
  module _ (c : ℕ) (h : RoomAt on (lines_at (facts_in p a t) i (board_of ls os ss hs ws) (turn (timing_by p a t x) c (run_in ls os ss hs ws k))) o at) where
    pub asks_room : RoomAt on (lines_at (facts_in p a t) i (board_of ls os ss hs ws) (asks_at (timing_by p a t x) c (run_in ls os ss hs ws k)).events) o at
    unfolding timing_in
    asks_room = asks_fit (timing_by p a t x) on i c (run_in ls os ss hs ws k) o at h

    module _ {hs₁ ws₁ k₁ o₁ : List ℕ} {v n w₁ : ℕ} (u₁ : Asked p a t x ls os ss on c i hs ws k o at hs₁ ws₁ k₁ o₁ v n w₁) where
      pub idle_room : RoomAt on (lines_at (facts_in p a t) i (board_of ls os ss hs₁ ws₁) (idle_uses (timing_by p a t x) c (board_of ls os ss hs₁ ws₁) (done_in k₁))) o₁ w₁
      unfolding timing_in
      idle_room = idle_fits (timing_by p a t x) on i c (run_in ls os ss hs ws k) o at h u₁.made u₁.done_same u₁.pick

      module _ {ls₂ os₂ : List ℕ} {ss₂ : List Bool} {k₂ o₂ : List ℕ} {w₂ : ℕ}
          (u₂ : Did p a t x on i (run_in ls os ss hs₁ ws₁ k₁) (idle_uses (timing_by p a t x) c (board_of ls os ss hs₁ ws₁) (done_in k₁)) (done_in k₁) ls₂ os₂ ss₂ hs₁ ws₁ k₂ o₁ w₁ o₂ w₂) where
        pub uses_room : RoomAt on (lines_at (facts_in p a t) i (board_of ls₂ os₂ ss₂ hs₁ ws₁) (work (timing_by p a t x) (done_in k₂) (next_of v n))) o₂ w₂
        unfolding timing_in
        uses_room = work_fits (timing_by p a t x) on i c (run_in ls os ss hs ws k) o at h u₁.made u₁.done_same u₁.pick u₂.made u₂.done

        pub who_uses : Uses (timing_by p a t x) (board_of ls₂ os₂ ss₂ hs₁ ws₁) (done_in k₂) v n
        unfolding timing_in
        who_uses = record {
          core = c;
          working =
              still_works (timing_by p a t x) on i c (run_in ls os ss hs ws k) o at h u₁.made u₁.done_same u₁.pick u₂.made u₂.done g.paced g.running u₁.going.running;
          nobody = u₁.nobody;
          somebody = u₁.somebody;
        }

        -- what the work requires
        pub may_work : (Going p a t x ls₂ os₂ ss₂ hs₁ ws₁ k₂ × Uses (timing_by p a t x) (board_of ls₂ os₂ ss₂ hs₁ ws₁) (done_in k₂) v n)
            × RoomAt on (lines_at (facts_in p a t) i (board_of ls₂ os₂ ss₂ hs₁ ws₁) (work (timing_by p a t x) (done_in k₂) (next_of v n))) o₂ w₂
        may_work = ((u₂.going, who_uses), uses_room)

        -- whether a mutex is handed on is what the work says
        pub turn_handed : {hands : Bool} → hands ≡ any_hands_on (answers (facts_in p a t) (board_of ls₂ os₂ ss₂ hs₁ ws₁) (work (timing_by p a t x) (done_in k₂) (next_of v n))) →
            hands ≡ any_hands_on (answers (facts_in p a t) (board_of ls os ss hs ws) (turn (timing_by p a t x) c (run_in ls os ss hs ws k)))
        unfolding timing_in
        turn_handed = turn_hands (timing_by p a t x) on i c (run_in ls os ss hs ws k) o at h u₁.made u₁.done_same u₁.pick u₂.made u₂.done

        module _ {ls₃ os₃ : List ℕ} {ss₃ : List Bool} {hs₃ ws₃ k₃ o₃ : List ℕ} {w₃ : ℕ}
            (u₃ : Did p a t x on i (run_in ls₂ os₂ ss₂ hs₁ ws₁ k₂) (work (timing_by p a t x) (done_in k₂) (next_of v n)) (work_done (done_in k₂) (next_of v n)) ls₃ os₃ ss₃ hs₃ ws₃ k₃ o₂ w₂ o₃ w₃) where
          pub turn_turned :
              Turned p a t x on i (run_in ls os ss hs ws k) (after_turn (timing_by p a t x) c (run_in ls os ss hs ws k)) (turn (timing_by p a t x) c (run_in ls os ss hs ws k)) ls₃ os₃ ss₃ hs₃ ws₃ k₃ o at o₃ w₃
          unfolding timing_in
          turn_turned =
              let T = timing_by p a t x in
              let r = run_in ls os ss hs ws k in
              record {
                going = u₃.going;
                after = turn_after T on i c r o at h u₁.made u₁.done_same u₁.pick u₂.made u₂.done u₃.made u₃.done;
                made = turn_made T on i c r o at h u₁.made u₁.done_same u₁.pick u₂.made u₂.done u₃.made u₃.done;
              }

          -- what the turn ensures
          pub turn_ends : {hands : Bool} → hands ≡ any_hands_on (answers (facts_in p a t) (board_of ls₂ os₂ ss₂ hs₁ ws₁) (work (timing_by p a t x) (done_in k₂) (next_of v n))) →
              Turned p a t x on i (run_in ls os ss hs ws k) (after_turn (timing_by p a t x) c (run_in ls os ss hs ws k)) (turn (timing_by p a t x) c (run_in ls os ss hs ws k)) ls₃ os₃ ss₃ hs₃ ws₃ k₃ o at o₃ w₃
              × (hands ≡ any_hands_on (answers (facts_in p a t) (board_of ls os ss hs ws) (turn (timing_by p a t x) c (run_in ls os ss hs ws k))))
          turn_ends e = (turn_turned, turn_handed e)
