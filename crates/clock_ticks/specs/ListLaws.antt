-- A tick as the lists say it.
use Rattle.std.specs.Prelude.{ℕ, ◌-◌, ◌≡◌, List, Bool}
use Rattle.std.proofs.Common.{ap₂, ◌∙◌, arith}
use Rattle.plan.specs.declared.Policy.{Policy}
use Rattle.plan.specs.declared.OverrunChoice.{OverrunChoice}
use Rattle.board_rules.specs.declared.Next.TheVariants.{Nobody}
use Rattle.board_rules.specs.View.{facts_in}
use Rattle.clock_rules.specs.Clock.{Timing, Run, tops, missed, cores, turns, after_turns, opened}
use Rattle.clock_rules.specs.Trace.{lines_at, tick_text}
use Rattle.clock_times.specs.Times.{timing_in}
use Rattle.clock_marks.specs.Marks.{board_of, run_in}
use Rattle.board_rules.specs.BoardLaws.{next_none, next_some}
use Rattle.clock_lines.specs.Told.{RoomAt}
use Rattle.clock_going.specs.Going.{timing_by, Going, Made}
use Rattle.clock_releases.specs.Opens.{Opening}
use Rattle.clock_cores.specs.Turned.{Turned}
use Rattle.clock_ticks.specs.Ticks.{Ticking}
use Rattle.clock_ticks.specs.TickLaws as laws

module _ {p : Policy} {o : OverrunChoice} {view x ls os : List ℕ} {ss : List Bool} {hs ws k : List ℕ} (g : Going p o view x ls os ss hs ws k) (on : Bool) (t : ℕ) (a : List ℕ)
    (h : RoomAt on (tick_text (timing_by p o view x) t (run_in ls os ss hs ws k)) a 0) where
  abbrev T : Timing
  T = timing_by p o view x

  abbrev r : Run
  r = run_in ls os ss hs ws k

  -- there is room for the tops
  pub open_room : RoomAt on (lines_at (facts_in p o view) t (board_of ls os ss hs ws) (tops T t)) a 0
  unfolding timing_in
  open_room = laws.tops_room T on t r a h

  module _ {ls₁ os₁ : List ℕ} {ss₁ : List Bool} {k₁ y₁ a₁ : List ℕ} {w₁ v n : ℕ} (q : Opening p o view x on t ls os ss hs ws k a 0 ls₁ os₁ ss₁ k₁ y₁ a₁ w₁ v n) where
    -- a job is missed
    pub tick_missed : (n ≡ 0 → ⊥) → {hs' ws' : List ℕ} → Ticking p o view x on t r a ls₁ os₁ ss₁ hs' ws' k₁ y₁ a₁ w₁ v n
    unfolding timing_in
    tick_missed nz =
        let m = laws.missed_told T on t r a h v n (q.first_missed ∙ next_some v n nz) q.text q.size in
        record { text = m.0; size = m.1; passing = record { first_missed = q.first_missed; v_to = q.v_to; n_to = q.n_to; over = λ z. absurd (nz z) } }

    -- none is
    module _ (z : n ≡ 0) where
      abbrev r₁ : Run
      r₁ = run_in ls₁ os₁ ss₁ hs ws k₁

      none : missed T t r.done ≡ Nobody
      none = q.first_missed ∙ next_none v n z

      is_open : r₁ ≡ opened T t r
      is_open = ap₂ (λ b d. record { board = b; done = d }) (q.opens z).board (q.opens z).done

      tops_made : Made T.facts on t r r₁ (tops T t) a 0 a₁ w₁
      unfolding timing_in opened
      tops_made = record { board = (q.opens z).board; text = q.text; size = q.size }

      pub turns_room : RoomAt on (lines_at (facts_in p o view) t (board_of ls₁ os₁ ss₁ hs ws) (turns T cores r₁)) a₁ w₁
      unfolding timing_in
      turns_room = laws.turns_room T on t r a h tops_made none is_open

      pub tick_over : {ls₂ os₂ : List ℕ} {ss₂ : List Bool} {hs₂ ws₂ k₂ a₂ : List ℕ} {w₂ : ℕ} →
          Turned p o view x on t r₁ (after_turns T cores r₁) (turns T cores r₁) ls₂ os₂ ss₂ hs₂ ws₂ k₂ a₁ w₁ a₂ w₂ → Ticking p o view x on t r a ls₂ os₂ ss₂ hs₂ ws₂ k₂ y₁ a₂ w₂ 0 0
      unfolding timing_in
      tick_over u =
          let m = laws.tick_told T on t r a h tops_made none is_open u.made u.after in
          record {
            text = m.0;
            size = m.1;
            passing = record {
              first_missed = none;
              v_to = omega arith;
              n_to = omega arith;
              over = λ e. record { going = u.going; after = laws.tick_after T on t r a h tops_made none is_open u.made u.after; nexts = (q.opens z).nexts };
            };
          }
