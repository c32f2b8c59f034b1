-- A run tick after tick: what is left of it at tick t answers for the whole.
use Rattle.std.specs.Prelude.{ℕ, zero, suc, ◌+◌, ◌-◌, ◌<◌, ◌≤◌, ◌≡◌, refl}
use Rattle.std.proofs.Common.{sym, ap, ◌∙◌, arith}
use Rattle.board_rules.specs.declared.Next.{Next}
use Rattle.board_rules.specs.declared.Next.TheVariants.{Nobody, To}
use Rattle.clock_rules.specs.declared.RunAnswer.TheVariants.{Ended, Missed}
use Rattle.clock_rules.specs.Clock.{Timing, Run, missed, tick, unless_missed, run_from}

module _ (T : Timing) (h t : ℕ) (r : Run) where
  -- one tick of what is left
  run_step : t < h → run_from T (h - t) t r ≡ unless_missed (run_from T (h - (t + 1)) (t + 1) (tick T t r)) (λ v n. Missed t v n) (missed T t r.done)
  run_step l = ap (λ k. run_from T k t r) (let e : h - t ≡ suc (h - (t + 1)) = omega arith in e) ∙ (unfold run_from in refl)

  -- a job is missed
  pub run_missed : t < h → (v n : ℕ) → missed T t r.done ≡ To v n → run_from T (h - t) t r ≡ Missed t v n
  run_missed l v n e = run_step l ∙ ap (unless_missed (run_from T (h - (t + 1)) (t + 1) (tick T t r)) (λ v n. Missed t v n)) e

  -- none is
  pub run_on : t < h → missed T t r.done ≡ Nobody → {r' : Run} → r' ≡ tick T t r → run_from T (h - (t + 1)) (t + 1) r' ≡ run_from T (h - t) t r
  run_on l e {r'} q =
      ap (run_from T (h - (t + 1)) (t + 1)) q
      ∙ sym (run_step l ∙ ap (unless_missed (run_from T (h - (t + 1)) (t + 1) (tick T t r)) (λ v n. Missed t v n)) e)

  -- nothing is left
  pub run_ended : h ≤ t → run_from T (h - t) t r ≡ Ended
  run_ended l = ap (λ k. run_from T k t r) (let e : h - t ≡ 0 = omega arith in e) ∙ (unfold run_from in refl)
