-- A step of the run: a tick is opened, its turns are to be made, or some ticks of plain turns are spent.
use Rattle.std.specs.Prelude.{ℕ, suc, ◌+◌, ◌-◌, ◌<◌, ◌≤◌, ◌≡◌, refl, List, Bool, true, false, ◌⊎◌, ltb, get_or}
use Rattle.std.proofs.Common.{sym, ap, ap₂, ◌∙◌, inl, inr, ⊎_elim, arith, ltb-true, ltb-false}
use Rattle.laws.specs.BoolLaws.{clash, bool_cases}
use Rattle.plan.specs.declared.Policy.{Policy}
use Rattle.plan.specs.declared.OverrunChoice.{OverrunChoice}
use Rattle.board_rules.specs.BoardLaws.{next_none}
use Rattle.clock_rules.specs.Clock.{missed, cores, after_turns, tick, run_from}
use Rattle.clock_marks.specs.Marks.{board_of, run_in, done_in}
use Rattle.clock_nexts.specs.Nexts.{Nexts, Quiet, at_tops, at_jobs, sooner}
use Rattle.clock_nexts.specs.ScanLaws.{sooner_it, sooner_not}
use Rattle.clock_misses.specs.DueLaws.{quiet_until}
use Rattle.clock_going.specs.Going.{timing_by, Going}
use Rattle.clock_opens.specs.Opens.{Opening}
use Rattle.clock_reaches.specs.Stretches.{ticks_cell}
use Rattle.clock_spends.specs.Spends.{Counted}
use Rattle.clock_spends.specs.AllSpending.{Ready, AllReady, SpentAll, ready_last, all_ticks}
use Rattle.clock_skips.specs.Skips.{Coming, soonest, Stepping}

-- THE SOONER OF TWO BOUNDS is one of them
sooner_one : (a b : ℕ) → ((sooner a b ≡ a) × (a < b)) ⊎ ((sooner a b ≡ b) × (b ≤ a))
sooner_one a b =
    ⊎_elim (λ e. let l = ltb-true a b e in inl (sym (sooner_it a b l), l)) (λ e. let l = ltb-false a b e in inr (sym (sooner_not a b (omega arith)), omega arith)) (bool_cases (ltb a b))

pub soon_is : (y : List ℕ) {a b s : ℕ} → a ≡ get_or y at_tops 0 → b ≡ get_or y at_jobs 0 → s ≡ sooner a b → s ≡ soonest y
soon_is y ea eb e = e ∙ ap₂ (λ a b. sooner a b) ea eb

pub soon_both : (y : List ℕ) (u : ℕ) → u ≤ soonest y → (u ≤ get_or y at_tops 0) × (u ≤ get_or y at_jobs 0)
soon_both y u l = ⊎_elim (λ e. let f = e.0 in let m = e.1 in (omega arith, omega arith)) (λ e. let f = e.0 in let m = e.1 in (omega arith, omega arith)) (sooner_one (get_or y at_tops 0) (get_or y at_jobs 0))

pub soon_from : {x y : List ℕ} {u : ℕ} → Nexts x y u → u ≤ soonest y
soon_from {x} {y} {u} n =
    let a = n.tops_from in
    let b = n.jobs_from in
    ⊎_elim (λ e. let f = e.0 in omega arith) (λ e. let f = e.0 in omega arith) (sooner_one (get_or y at_tops 0) (get_or y at_jobs 0))

-- before it nothing recurs
quiet_at : {p : Policy} {o : OverrunChoice} {view x ls os : List ℕ} {ss : List Bool} {hs ws k y : List ℕ} {t : ℕ} → Going p o view x ls os ss hs ws k → Coming x y t → (u : ℕ) → t < u → u < soonest y → Quiet (timing_by p o view x) u
quiet_at {p} {o} {view} {x} {ls} {os} {ss} {hs} {ws} {k} {y} g c u l m =
    let s = soon_both y (suc u) m in
    ⊎_elim (λ n. quiet_until p o g.paired n u (omega arith) (omega (arith, s.0)) (omega (arith, s.1))) (λ n. quiet_until p o g.paired n u (omega arith) (omega (arith, s.0)) (omega (arith, s.1))) c

-- where it has come, the tick is not open
pub not_open : {x y : List ℕ} {t : ℕ} → Coming x y t → soonest y ≤ t → Nexts x y t
not_open c l = ⊎_elim (λ n. n) (λ n. absurd (let m = soon_from n in omega arith)) c

-- THE TICK IS OPENED
module _ {p : Policy} {o : OverrunChoice} {view x ls os : List ℕ} {ss : List Bool} {hs ws k y : List ℕ} {h t : ℕ} (late : soonest y ≤ t)
    {on : Bool} {at : ℕ} {buf ls₁ os₁ : List ℕ} {ss₁ : List Bool} {k₁ y₁ buf₁ : List ℕ} {w₁ v n : ℕ} (q : Opening p o view x on t ls os ss hs ws k buf at ls₁ os₁ ss₁ k₁ y₁ buf₁ w₁ v n) where
  -- a job is missed
  pub step_missed : (n ≡ 0 → ⊥) → {hs' ws' pl : List ℕ} (to : ℕ) (turns : Bool) → Stepping p o view x h t (run_in ls os ss hs ws k) y ls₁ os₁ ss₁ hs' ws' k₁ y₁ pl v n to turns true
  step_missed nz to turns = record {
    due = λ z. late;
    not_due = λ z. absurd (clash refl z);
    missed_first = λ z. (refl, q.first_missed);
    opens = λ z. absurd (nz z);
    still = λ z. absurd (nz z);
    strode = λ z. absurd (nz z);
  }

  -- none is
  pub step_opened : n ≡ 0 → {pl : List ℕ} → Counted (timing_by p o view x) (board_of ls₁ os₁ ss₁ hs ws) (done_in k₁) pl → Stepping p o view x h t (run_in ls os ss hs ws k) y ls₁ os₁ ss₁ hs ws k₁ y₁ pl 0 0 t true true
  step_opened z c = record {
    due = λ e. late;
    not_due = λ e. absurd (clash refl e);
    missed_first = λ nz. absurd (nz refl);
    opens = λ e f.
        let s = q.opens z in
        record {
          none_missed = q.first_missed ∙ next_none v n z;
          going = s.going;
          after = ap₂ (λ b d. record { board = b; done = d }) s.board s.done;
          nexts = s.nexts;
          counted = c;
          there = refl;
          turned = refl;
        };
    still = λ e f. absurd (clash refl f);
    strode = λ e f. absurd (clash refl f);
  }

module _ {p : Policy} {o : OverrunChoice} {view x ls os : List ℕ} {ss : List Bool} {hs ws k y : List ℕ} {h t : ℕ} (g : Going p o view x ls os ss hs ws k) (next : Coming x y t) (early : t < soonest y)
    {pl : List ℕ} (c : Counted (timing_by p o view x) (board_of ls os ss hs ws) (done_in k) pl) where
  -- NOTHING IS DONE
  pub step_still : Stepping p o view x h t (run_in ls os ss hs ws k) y ls os ss hs ws k y pl 0 0 (t + 1) true false
  step_still = record {
    due = λ e. absurd (clash e refl);
    not_due = λ e. early;
    missed_first = λ nz. absurd (nz refl);
    opens = λ e f. absurd (clash f refl);
    still = λ e f m. record { going = g; after = refl; nexts = refl; counted = c; there = refl };
    strode = λ e f. absurd (clash refl f);
  }

  -- SOME TICKS ARE SPENT
  module _ {most least : ℕ} (m : most ≤ soonest y) (n : most ≤ h) (to : (least ≤ most - t) × ((i : ℕ) → i ≤ 3 → least ≤ ticks_cell pl i)) (some : 0 < least) where
    all_ready : Ready p o view x os ss hs ws 0 least ls k pl
    all_ready = record { going = g; counted = c; some = some; to = λ i _ j. to.1 i j }

    -- they may be
    pub stride_ready : AllReady p least ls k pl
    stride_ready = record { choice = o; view = view; times = x; over = os; stopped = ss; holder = hs; waits = ws; ready = all_ready }

    -- and are
    pub step_strode : {ls' k' pl' : List ℕ} → SpentAll p least ls k pl ls' k' pl' → Stepping p o view x h t (run_in ls os ss hs ws k) y ls' os ss hs ws k' y pl' 0 0 (t + least) false false
    step_strode {ls'} {k'} s = record {
      due = λ e. absurd (clash e refl);
      not_due = λ e. early;
      missed_first = λ nz. absurd (nz refl);
      opens = λ e f. absurd (clash f refl);
      still = λ e f u. absurd (clash u refl);
      strode = λ e f.
          let u = to.0 in
          let T = timing_by p o view x in
          let r = ready_last all_ready s in
          let e₁ : h - (t + 1) ≡ least - 1 + (h - (t + least)) = omega arith in
          let e₂ : t + 1 + (least - 1) ≡ t + least = omega arith in
          record {
            going = r.going;
            nexts = refl;
            counted = r.counted;
            more = omega arith;
            within = omega arith;
            near = omega arith;
            ahead = sym (ap (λ i. run_from T i (t + 1) (after_turns T cores (run_in ls os ss hs ws k))) e₁
                ∙ all_ticks all_ready s (h - (t + least)) (t + 1) (λ i j. quiet_at g next (t + 1 + i) (omega arith) (omega arith))
                ∙ ap (λ i. run_from T (h - (t + least)) i (run_in ls' os ss hs ws k')) e₂);
          };
    }
