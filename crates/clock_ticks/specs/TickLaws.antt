-- A tick of the clock from its two parts: how it opens, and the turns of its cores.
use Rattle.std.specs.Prelude.{ℕ, ◌≡◌, refl, List, [], ◌++◌, Bool}
use Rattle.std.proofs.Common.{sym, subst, ◌∙◌, append-nil}
use Rattle.std.proofs.Math.Path.{ap}
use Rattle.board_rules.specs.declared.Event.{Event}
use Rattle.board_rules.specs.declared.Next.{Next}
use Rattle.board_rules.specs.declared.Next.TheVariants.{Nobody, To}
use Rattle.clock_rules.specs.Clock.{Timing, Run, tops, missed, cores, turns, after_turns, opened, tick, unless_missed, events_at}
use Rattle.clock_rules.specs.Trace.{lines_at, tick_text}
use Rattle.clock_lines.specs.Told.{told_at, told_to, RoomAt}
use Rattle.clock_going.specs.Going.{Made}
use Rattle.clock_uses.specs.Making.{room_begin, room_then, made_then}

module _ (T : Timing) (on : Bool) (t : ℕ) (r : Run) (a : List ℕ) (h : RoomAt on (tick_text T t r) a 0) where
  -- what comes behind the tops
  abbrev others : Next → List Event
  others x = unless_missed (turns T cores (opened T t r)) (λ v n. []) x

  all_room : RoomAt on (lines_at T.facts t r.board (tops T t ++ others (missed T t r.done))) a 0
  unfolding tick_text events_at
  all_room = h

  -- there is room for the tops
  pub tops_room : RoomAt on (lines_at T.facts t r.board (tops T t)) a 0
  tops_room = room_begin T.facts on t r (tops T t) (others (missed T t r.done)) a 0 all_room

  -- what the events of the tick are told, the tick is
  told_events : (es : List Event) → es ≡ tops T t ++ others (missed T t r.done) → {o : List ℕ} {w : ℕ} → o ≡ told_at on (lines_at T.facts t r.board es) a 0 →
      w ≡ told_to on (lines_at T.facts t r.board es) 0 → (o ≡ told_at on (tick_text T t r) a 0) × (w ≡ told_to on (tick_text T t r) 0)
  unfolding tick_text events_at
  told_events es e q z = (
    q ∙ ap (λ y. told_at on (lines_at T.facts t r.board y) a 0) e,
    z ∙ ap (λ y. told_to on (lines_at T.facts t r.board y) 0) e,
  )

  -- where a job is missed, the tops are all
  pub missed_told : (v n : ℕ) → missed T t r.done ≡ To v n → {o : List ℕ} {w : ℕ} → o ≡ told_at on (lines_at T.facts t r.board (tops T t)) a 0 →
      w ≡ told_to on (lines_at T.facts t r.board (tops T t)) 0 → (o ≡ told_at on (tick_text T t r) a 0) × (w ≡ told_to on (tick_text T t r) 0)
  missed_told v n e = told_events (tops T t) (sym (append-nil (tops T t)) ∙ ap (λ x. tops T t ++ others x) (sym e))

  module _ {r₁ : Run} {o₁ : List ℕ} {w₁ : ℕ} (m₁ : Made T.facts on t r r₁ (tops T t) a 0 o₁ w₁) where
    -- where none is, the tick is open
    module _ (none : missed T t r.done ≡ Nobody) (is_open : r₁ ≡ opened T t r) where
      turns_are : turns T cores r₁ ≡ others (missed T t r.done)
      turns_are = ap (turns T cores) is_open ∙ ap others (sym none)

      -- there is room for the turns
      pub turns_room : RoomAt on (lines_at T.facts t r₁.board (turns T cores r₁)) o₁ w₁
      turns_room =
          subst (λ es. RoomAt on (lines_at T.facts t r₁.board es) o₁ w₁) (sym turns_are)
          (room_then T.facts on t r (tops T t) (others (missed T t r.done)) a 0 all_room m₁)

      -- the tick is made
      module _ {r₂ : Run} {o₂ : List ℕ} {w₂ : ℕ} (m₂ : Made T.facts on t r₁ r₂ (turns T cores r₁) o₁ w₁ o₂ w₂) (is-after : r₂ ≡ after_turns T cores r₁) where
        pub tick_told : (o₂ ≡ told_at on (tick_text T t r) a 0) × (w₂ ≡ told_to on (tick_text T t r) 0)
        tick_told =
            let m = made_then T.facts on t r (tops T t) (others (missed T t r.done)) a 0 all_room m₁
            (subst (λ es. Made T.facts on t r₁ r₂ es o₁ w₁ o₂ w₂) turns_are m₂) in
            told_events (tops T t ++ others (missed T t r.done)) refl m.text m.size

        pub tick_after : r₂ ≡ tick T t r
        unfolding tick
        tick_after = is-after ∙ ap (after_turns T cores) is_open
