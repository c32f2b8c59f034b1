-- A core's turn in which no mutex is handed on leaves the VCPUs of the other cores as they were.
use Rattle.std.specs.Prelude.{ℕ, ◌≡◌, true, false, List}
use Rattle.std.proofs.Common.{sym, ap, subst, ◌∙◌, eqb-true}
use Rattle.laws.specs.BoolLaws.{both_right}
use Rattle.laws.specs.Sums.{Each}
use Rattle.laws.specs.SumLaws.{each_append, each_map}
use Rattle.board_rules.specs.declared.Event.{Event}
use Rattle.board_rules.specs.declared.Next.{Next}
use Rattle.board_events.specs.Events.{board_after}
use Rattle.board_keeps.specs.Fair.{InV}
use Rattle.board_keeps.specs.Marks.{own_vcpu}
use Rattle.clock_rules.specs.Clock.{Timing, Run, is_on, asks_at, turn, after_turn}
use Rattle.clock_paced.specs.Paced.{Paced}
use Rattle.clock_steps.specs.Asking.{LastPick}
use Rattle.clock_steps.specs.Running.{Running}
use Rattle.clock_runs.specs.Cores.{picked_chosen, WorkBy, no_work, a_tick, a_tick_and_free, turn_of}
use Rattle.clock_runs.specs.Jobs.{turn_off_core}
use Rattle.clock_plains.specs.Plains.{turn_hands_on}
use Rattle.clock_alone.specs.Same.{SameOn, SameCore, events_same}

-- e is an event of a VCPU of core c
abbrev EventOn : Timing → ℕ → Event → Type 0
EventOn T c e = is_on T c (own_vcpu e) ≡ true

-- the core of such a VCPU
core_is : (T : Timing) (c v : ℕ) → is_on T c v ≡ true → T.core v ≡ c
core_is T c v e = eqb-true (T.core v) c (both_right (T.facts.has_vcpu v) _ e)

module _ (T : Timing) (c : ℕ) (r : Run) where
  -- whoever is picked last is of such a VCPU
  pick_on : {v n : ℕ} → LastPick T c r.done r.board (asks_at T c r).events v n → is_on T c v ≡ true
  pick_on {v} {n} p = (picked_chosen T c r.done (board_after T.facts r.board p.before) v n p.is_picked).on_core

  -- so are the events of its work
  work_on : {x : Next} {es : List Event} → WorkBy T c r x es → Each (EventOn T c) es
  work_on no_work = tt
  work_on (a_tick p z) = (pick_on p, tt)
  work_on (a_tick_and_free m p z nz) = (pick_on p, (pick_on p, tt))

  -- and all events of the turn
  turn_on : Each (EventOn T c) (turn T c r)
  turn_on =
      let t = turn_of T c r in
      subst (Each (EventOn T c)) (sym t.is)
      (each_append (EventOn T c) t.asking _ (each_map t.asking (λ e a. ap (λ x. is_on T c (own_vcpu x)) a.is ∙ a.on_core) t.asks_only)
      (each_append (EventOn T c) t.idling t.working (each_map t.idling (λ e a. ap (λ x. is_on T c (own_vcpu x)) a.is ∙ a.on_core) t.idles_only)
      (work_on t.works_only)))

-- THE LAW: core c beside the turn of core c₂
pub turn_same_core : {T : Timing} (p : Paced T) (r : Run) → Running T r.board r.done → (c c₂ : ℕ) → (c ≡ c₂ → ⊥) → turn_hands_on T c₂ r ≡ false →
    SameCore T c r.board r.done (after_turn T c₂ r).board (after_turn T c₂ r).done
unfolding after_turn
turn_same_core {T} p r g c c₂ apart none = record { vcpus = each; ticks = λ w j on n i. turn_off_core w n j i T c₂ r (λ e. apart (sym (core_is T c w on) ∙ e)) }
  where
    each : (w : ℕ) → InV w → is_on T c w ≡ true → SameOn w r.board (after_turn T c₂ r).board
    each w j on =
        events_same p.fair g.shaped g.is_good w j (turn T c₂ r)
        (each_map (turn T c₂ r) (λ e o z. apart (sym (core_is T c w on) ∙ ap T.core z ∙ core_is T c₂ (own_vcpu e) o)) (turn_on T c₂ r)) none
