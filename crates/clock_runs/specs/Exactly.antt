-- How a run ends, tick by tick: exactly where it ended, and exactly where and whose job it missed.
use Rattle.std.specs.Prelude.{ℕ, zero, suc, ◌<◌, ◌≡◌, ◌↔◌, ◌⊎◌}
use Rattle.std.proofs.Common.{sym, ap, subst, ◌∙◌, inl, inr, ⊎_elim, arith}
use Rattle.plan.specs.declared.Refusal.{Refusal}
use Rattle.clock_rules.specs.declared.RunAnswer.TheVariants.{Ended, Missed, NoRun}
use Rattle.clock_rules.specs.Clock.{Timing, Run, at_first, run_of}
use Rattle.clock_steps.specs.Missed.{FirstMiss}
use Rattle.clock_steps.specs.States.{state_from, missed_run, ended_run}
use Rattle.clock_runs.specs.Misses.{SomeMiss, miss_cases}
use Rattle.clock_runs.specs.Runs.{state_at, Unmissed, unmissed_next, state_is, goes_exactly}

-- task (v, n) misses first at tick t, before the horizon h, and no task misses at a tick before t
pub record MissedAt (T : Timing) (h t v n : ℕ) : Type 0 where
  pub before_end : t < h
  pub first_there : FirstMiss T t (state_at T t).done v n
  pub none_earlier : Unmissed T t

-- a tick and a task of which this holds
pub record SomeMissed (T : Timing) (h : ℕ) : Type 0 where
  pub tick : ℕ
  pub vcpu : ℕ
  pub task : ℕ
  pub is : MissedAt T h tick vcpu task

-- of h ticks none misses, or there is the first that does
pub ends_in_law : (T : Timing) (h : ℕ) → Unmissed T h ⊎ SomeMissed T h
ends_in_law T zero = inl (λ t l. absurd (omega arith))
ends_in_law T (suc h) =
    ⊎_elim (λ q. ⊎_elim (λ m. inl (unmissed_next T h q m)) (λ s. inr (here q s)) (miss_cases T h (state_at T h).done)) (λ s. inr (later s)) (ends_in_law T h)
  where
    here : Unmissed T h → SomeMiss T h (state_at T h).done → SomeMissed T (suc h)
    here q s = record { tick = h; vcpu = s.vcpu; task = s.task; is = record { before_end = omega arith; first_there = s.is; none_earlier = q } }

    later : SomeMissed T h → SomeMissed T (suc h)
    later s =
        let i = s.is in
        let l = i.before_end in
        record { tick = s.tick; vcpu = s.vcpu; task = s.task; is = record { before_end = omega arith; first_there = i.first_there; none_earlier = i.none_earlier } }

module _ (T : Timing) (h : ℕ) where
  -- THE RUN ENDED exactly where no task misses at a tick before the horizon
  pub ended_exactly : (run_of T h ≡ Ended) ↔ Unmissed T h
  ended_exactly = (λ e. (goes_exactly T h).0 ((ended_run T h).0 e), λ q. (ended_run T h).1 ((goes_exactly T h).1 q))

  -- IT REPORTS THE MISS OF (v, n) AT TICK t exactly where that is the first miss
  pub missed_exactly : (t v n : ℕ) → (run_of T h ≡ Missed t v n) ↔ MissedAt T h t v n
  missed_exactly t v n = (
    λ e.
        let m = (missed_run T h t v n).0 e in
        record { before_end = m.0; first_there = subst (λ d. FirstMiss T t d v n) here m.2; none_earlier = (goes_exactly T t).0 m.1 },
    λ m. (missed_run T h t v n).1 (m.before_end, (goes_exactly T t).1 m.none_earlier, subst (λ d. FirstMiss T t d v n) (sym here) m.first_there),
  )
    where
      here : (state_from T t 0 (at_first T)).done ≡ (state_at T t).done
      here = ap (λ (r : Run). r.done) (state_is T t)

  -- it ends in one of these two ways
  pub ends_one_way : (run_of T h ≡ Ended) ⊎ SomeMissed T h
  ends_one_way = ⊎_elim (λ q. inl (ended_exactly.1 q)) (λ s. inr s) (ends_in_law T h)

  -- so no run of a timing is refused
  pub never_refused : (r : Refusal) → run_of T h ≡ NoRun r → ⊥
  never_refused r e =
      ⊎_elim (λ q. let z : ◌≡◌ {A = ℕ} 0 1 = cc in omega arith)
      (λ s. let m = (missed_exactly s.tick s.vcpu s.task).1 s.is in let z : ◌≡◌ {A = ℕ} 0 1 = cc in omega arith) ends_one_way

  -- and two reports of a miss are of one task at one tick
  pub one_miss : (t v n u w j : ℕ) → MissedAt T h t v n → MissedAt T h u w j → (t ≡ u) × (v ≡ w) × (n ≡ j)
  one_miss t v n u w j a b =
      let e : Missed t v n ≡ Missed u w j = sym ((missed_exactly t v n).1 a) ∙ (missed_exactly u w j).1 b in
      let x : t ≡ u = cc in
      let y : v ≡ w = cc in
      let z : n ≡ j = cc in (x, y, z)
