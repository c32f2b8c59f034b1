-- The run by steps, as the lists say it.
use Rattle.std.specs.Prelude.{ℕ, ◌+◌, ◌-◌, ◌<◌, ◌≤◌, suc, ◌≡◌, List, Bool, false, true, ◌⊎◌, length, get_or, replicate}
use Rattle.std.proofs.Common.{sym, ap₂, ◌∙◌, arith, inl, inr, ⊎_elim}
use Rattle.std.proofs.Math.Path.{ap, subst}
use Rattle.plan.specs.declared.Policy.{Policy}
use Rattle.plan.specs.declared.OverrunChoice.{OverrunChoice}
use Rattle.clock_rules.specs.declared.RunAnswer.TheVariants.{Ended, Missed}
use Rattle.clock_rules.specs.Clock.{Run, missed, cores, turns, after_turns, tick, run_from}
use Rattle.clock_marks.specs.Marks.{board_of, run_in, done_in}
use Rattle.board_rules.specs.BoardLaws.{next_some}
use Rattle.clock_nexts.specs.Nexts.{Nexts}
use Rattle.clock_going.specs.Going.{timing_by, Going}
use Rattle.std.proofs.lemmas.List.{get_or-replicate}
use Rattle.std.specs.Prelude.{if◌then◌else◌}
use Rattle.laws.specs.BoolLaws.{bool_cases}
use Rattle.clock_misses.specs.DueLaws.{quiet_until}
use Rattle.clock_renews.specs.PartLaws.{nexts_later}
use Rattle.clock_plains.specs.PlainTicks.{run_quiet}
use Rattle.clock_strides.specs.Stretches.{plain_length}
use Rattle.clock_strides.specs.Spends.{Counted}
use Rattle.clock_strides.specs.Strides.{turns_or, Strided}
use Rattle.clock_skips.specs.Skips.{Coming, soonest, Stepping}
use Rattle.clock_skips.specs.SkipLaws.{soon_both, soon_from}
use Rattle.clock_ends.specs.Ends.{Reached, Halfway, Known}
use Rattle.clock_ends.specs.RunLaws.{run_missed, run_on, run_ended}

-- THE RUN to h, from the state r at tick 0 on
module _ {p : Policy} {o : OverrunChoice} {view x : List ℕ} {h : ℕ} {r : Run} where
  -- at tick 0
  pub reached_first : {ls os : List ℕ} {ss : List Bool} {hs ws k y : List ℕ} → Going p o view x ls os ss hs ws k → Nexts x y 0 → run_in ls os ss hs ws k ≡ r →
      Reached p o view x h r 0 ls os ss hs ws k y
  reached_first g n e = record { going = g; nexts = n; within = omega arith; rest = ap₂ (λ i s. run_from (timing_by p o view x) i 0 s) (let z : h - 0 ≡ h = omega arith in z) e }

  module _ {t : ℕ} {ls os : List ℕ} {ss : List Bool} {hs ws k y : List ℕ} (i : Reached p o view x h r t ls os ss hs ws k y) where
    -- at h it has ended
    pub reached_end : h ≤ t → Ended ≡ run_from (timing_by p o view x) h 0 r
    reached_end l = sym (run_ended (timing_by p o view x) h t (run_in ls os ss hs ws k) l) ∙ i.rest

-- AND STEP AFTER STEP, where so much is known
module _ {p : Policy} {o : OverrunChoice} {view x : List ℕ} {h : ℕ} {r : Run} {t : ℕ} {ls os : List ℕ} {ss : List Bool} {hs ws k y pl : List ℕ} (i : Known p o view x h r t ls os ss hs ws k y pl) where
  pub known_going : Going p o view x ls os ss hs ws k
  known_going = ⊎_elim (λ a. a.going) (λ a. a.going) i.came

  pub known_nexts : Coming x y t
  known_nexts = ⊎_elim (λ a. inl a.nexts) (λ a. inr a.nexts) i.came

  pub known_long : length y ≡ 162
  known_long = ⊎_elim (λ a. a.nexts.long) (λ a. a.nexts.long) i.came

  -- before its end there is a tick more
  pub known_end : h ≤ t → Reached p o view x h r t ls os ss hs ws k y
  known_end l = ⊎_elim (λ a. a) (λ a. absurd (let m = a.early in omega arith)) i.came

  -- a tick that is late is not open yet
  late_reached : soonest y ≤ t → Reached p o view x h r t ls os ss hs ws k y
  late_reached l = ⊎_elim (λ a. a) (λ a. absurd (let m = soon_from a.nexts in omega arith)) i.came

  -- and a quiet one as good as open
  early_halfway : t < h → t < soonest y → Halfway p o view x h r t ls os ss hs ws k y
  early_halfway l m = ⊎_elim open_quiet (λ a. a) i.came
    where
      open_quiet : Reached p o view x h r t ls os ss hs ws k y → Halfway p o view x h r t ls os ss hs ws k y
      open_quiet a =
          let T = timing_by p o view x in
          let s = soon_both y (suc t) m in
          let q = quiet_until p o a.going.paired a.nexts t (omega arith) (omega (arith, s.0)) (omega (arith, s.1)) in
          let e : h - t ≡ suc (h - (t + 1)) = omega arith in
          record {
            going = a.going;
            nexts = nexts_later (t + 1) a.nexts (omega arith) (omega (arith, s.0)) (omega (arith, s.1));
            early = l;
            rest = sym (run_quiet q (run_in ls os ss hs ws k) a.going.running.done_long (h - (t + 1))) ∙ ap (λ j. run_from T j t (run_in ls os ss hs ws k)) (sym e) ∙ a.rest;
          }

  module _ (l : t < h) {ls' os' : List ℕ} {ss' : List Bool} {hs' ws' k' y' pl' : List ℕ} {v n to : ℕ} {turns look : Bool}
      (q : Stepping p o view x h t (run_in ls os ss hs ws k) y ls' os' ss' hs' ws' k' y' pl' v n to turns look) where
    -- a job is missed at t
    pub known_missed : (n ≡ 0 → ⊥) → Missed t v n ≡ run_from (timing_by p o view x) h 0 r
    known_missed nz =
        let m = q.missed_first nz in
        sym (run_missed (timing_by p o view x) h t (run_in ls os ss hs ws k) l v n (m.1 ∙ next_some v n nz)) ∙ (late_reached (q.due m.0)).rest

    module _ (z : n ≡ 0) where
      -- some ticks are spent
      pub known_strode : turns ≡ false → Known p o view x h r to ls' os' ss' hs' ws' k' y' pl'
      known_strode e =
          let s = q.strode z e in
          let a = s.more in
          let b = soon_both y to s.near in
          let w = early_halfway l (omega (arith, s.near)) in
          record {
            came = inl
                (record {
                  going = s.going;
                  nexts = subst (λ u. Nexts x u to) (sym s.nexts) (nexts_later to w.nexts (omega arith) b.0 b.1);
                  within = s.within;
                  rest = s.ahead ∙ w.rest;
                });
            counted = s.counted;
          }

      pub strode_less : turns ≡ false → h - to + (h - soonest y') < h - t + (h - soonest y)
      strode_less e =
          let s = q.strode z e in
          let a = s.more in
          let b = s.within in
          let f = ap soonest s.nexts in
          omega arith

      -- the turns may be made, or looked at
      module _ (e : turns ≡ true) where
        pub turns_going : Going p o view x ls' os' ss' hs' ws' k'
        turns_going = ⊎_elim (λ f. (q.opens z f).going) (λ f. (q.still z f e).going) (bool_cases look)

        pub turns_counted : Counted (timing_by p o view x) (board_of ls' os' ss' hs' ws') (done_in k') pl'
        turns_counted = ⊎_elim (λ f. (q.opens z f).counted) (λ f. (q.still z f e).counted) (bool_cases look)

        pub turns_less : h - to + (h - soonest y') < h - t + (h - soonest y)
        turns_less = ⊎_elim opened_less still_less (bool_cases look)
          where
            opened_less : look ≡ true → h - to + (h - soonest y') < h - t + (h - soonest y)
            opened_less f =
                let s = q.opens z f in
                let a = s.there in
                let b = soon_from s.nexts in
                let d = q.due f in
                omega arith

            still_less : look ≡ false → h - to + (h - soonest y') < h - t + (h - soonest y)
            still_less f =
                let s = q.still z f e in
                let a = s.there in
                let b = ap soonest s.nexts in
                omega arith

        module _ {ls₂ os₂ : List ℕ} {ss₂ : List Bool} {hs₂ ws₂ k₂ pl₂ : List ℕ} (d : Strided p o view x (turns_or look (timing_by p o view x) cores (run_in ls' os' ss' hs' ws' k')) ls₂ os₂ ss₂ hs₂ ws₂ k₂ pl₂) where
          -- the tick is open
          looked_at : look ≡ true → Halfway p o view x h r to ls₂ os₂ ss₂ hs₂ ws₂ k₂ y'
          unfolding tick
          looked_at f =
              let T = timing_by p o view x in
              let s = q.opens z f in
              let a = late_reached (q.due f) in
              let u = ap (λ (w : Bool). if w then run_in ls' os' ss' hs' ws' k' else after_turns T cores (run_in ls' os' ss' hs' ws' k')) f in
              subst (λ w. Halfway p o view x h r w ls₂ os₂ ss₂ hs₂ ws₂ k₂ y') (sym s.there)
              (record {
                going = d.going;
                nexts = s.nexts;
                early = l;
                rest = run_on T h t (run_in ls os ss hs ws k) l s.none_missed (ap (after_turns T cores) (d.after ∙ u ∙ s.after)) ∙ a.rest;
              })

          -- or over
          turns_made : look ≡ false → Reached p o view x h r to ls₂ os₂ ss₂ hs₂ ws₂ k₂ y'
          turns_made f =
              let T = timing_by p o view x in
              let s = q.still z f e in
              let w = early_halfway l (q.not_due f) in
              let u = ap (λ (w : Bool). if w then run_in ls' os' ss' hs' ws' k' else after_turns T cores (run_in ls' os' ss' hs' ws' k')) f in
              subst (λ w. Reached p o view x h r w ls₂ os₂ ss₂ hs₂ ws₂ k₂ y') (sym s.there)
              (record {
                going = d.going;
                nexts = subst (λ u. Nexts x u (t + 1)) (sym s.nexts) w.nexts;
                within = omega arith;
                rest = ap (run_from T (h - (t + 1)) (t + 1)) (d.after ∙ u ∙ ap (after_turns T cores) s.after) ∙ w.rest;
              })

          pub known_turned : Known p o view x h r to ls₂ os₂ ss₂ hs₂ ws₂ k₂ y' pl₂
          known_turned = record { came = ⊎_elim (λ f. inr (looked_at f)) (λ f. inl (turns_made f)) (bool_cases look); counted = d.counted }

-- at first nothing is known
pub counted_none : {p : Policy} {o : OverrunChoice} {view x ls os : List ℕ} {ss : List Bool} {hs ws k pl : List ℕ} → Going p o view x ls os ss hs ws k → length pl ≡ plain_length → ((i : ℕ) → i ≤ 7 → get_or pl i 0 ≡ 0) →
    Counted (timing_by p o view x) (board_of ls os ss hs ws) (done_in k) pl
counted_none g l z = record { long = l; core = λ i m s. absurd (let e = z i (omega arith) in omega arith); pick = λ i m s. absurd (let e = z (4 + i) (omega arith) in omega arith) }

-- as in a cleared list
abbrev cleared : List ℕ
cleared = replicate 12 0

pub zeros : (i : ℕ) → i ≤ 7 → get_or cleared i 0 ≡ 0
zeros i l = get_or-replicate 12 i 0 0 (omega arith)
