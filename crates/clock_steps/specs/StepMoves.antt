-- How a change of holders, of waits and of ticks done keeps every task in step.
use Rattle.std.specs.Prelude.{ℕ, ◌+◌, ◌<◌, ◌≡◌}
use Rattle.std.proofs.Common.{sym, subst, ◌∙◌}
use Rattle.board_rules.specs.Board.{seat}
use Rattle.board_keeps.specs.Fair.{InV, InN, InM}
use Rattle.board_rules.specs.Names.{seat_some}
use Rattle.board_keeps.specs.Moves.{HoldersBut, WaitsBut}
use Rattle.clock_rules.specs.Clock.{Timing}
use Rattle.clock_paced.specs.Paced.{Paced}
use Rattle.clock_steps.specs.InStep.{Stepped, InStep, Served, own_waits, own_granted, own_works, own_frees, still_stepped, holds_same, all_seats}

module _ {T : Timing} (p : Paced T) {H : ℕ → ℕ} {W : ℕ → ℕ → ℕ} {D : ℕ → ℕ → ℕ} (g : InStep T H W D) (v n : ℕ) (i : InV v) (l : InN n) where
  -- (v, n) stands where a section begins, and gets its mutex, which was free
  pub given_in_step : (H' : ℕ → ℕ) (W' : ℕ → ℕ → ℕ) (m : ℕ) → InM m → T.begins v n (D v n) ≡ m → H m ≡ 0 → H' m ≡ seat v n → HoldersBut m H' H →
      W' v n ≡ 0 → WaitsBut v n W' W → InStep T H' W' D
  given_in_step H' W' m k e free new same none rest =
      all_seats (λ x j. Stepped T H' (W' x j) x j (D x j)) v n i l
      (subst (λ w. Stepped T H' w v n (D v n)) (sym none) (own_granted p (g v n i l) H' m k e free same l new))
      (λ x j a c ne. subst (λ w. Stepped T H' w x j (D x j)) (sym (rest x j a c ne))
      (still_stepped H' (holds_same {H = H} {H' = H'} m x j same (λ h. seat_some x j c (sym h ∙ free)) (λ h. ne (sym h ∙ new))) p (g x j a c)))

  -- (v, n) waits for the mutex of the section that begins
  pub waits_in_step : (W' : ℕ → ℕ → ℕ) (m : ℕ) → T.begins v n (D v n) ≡ m → W' v n ≡ m → WaitsBut v n W' W → InStep T H W' D
  waits_in_step W' m e new rest =
      all_seats (λ x j. Stepped T H (W' x j) x j (D x j)) v n i l
      (subst (λ w. Stepped T H w v n (D v n)) (sym new) (own_waits p (g v n i l) m e))
      (λ x j a c ne. subst (λ w. Stepped T H w x j (D x j)) (sym (rest x j a c ne)) (g x j a c))

  module _ (D' : ℕ → ℕ → ℕ) (one : D' v n ≡ D v n + 1) (rest : WaitsBut v n D' D) (idle : W v n ≡ 0) (short : D v n < T.lengths v n) where
    -- (v, n) works a tick, and no section of it ends
    pub works_in_step : Served T H v n (D v n) → T.ends v n (D v n + 1) ≡ 0 → InStep T H W D'
    works_in_step all none =
        all_seats (λ x j. Stepped T H (W x j) x j (D' x j)) v n i l
        (subst (λ w. Stepped T H w v n (D' v n)) (sym idle) (subst (λ d. Stepped T H 0 v n d) (sym one) (own_works p (g v n i l) all short none)))
        (λ x j a c ne. subst (λ d. Stepped T H (W x j) x j d) (sym (rest x j a c ne)) (g x j a c))

    -- (v, n) works a tick, and frees the mutex of the section that ends
    pub frees_in_step : (H' : ℕ → ℕ) (m : ℕ) → T.ends v n (D v n + 1) ≡ m → (m ≡ 0 → ⊥) → H m ≡ seat v n → ((k : ℕ) → InM k → H k ≡ seat v n → k ≡ m) →
        HoldersBut m H' H → H' m ≡ 0 → InStep T H' W D'
    frees_in_step H' m e nz held alone same free =
        all_seats (λ x j. Stepped T H' (W x j) x j (D' x j)) v n i l
        (subst (λ w. Stepped T H' w v n (D' v n)) (sym idle) (subst (λ d. Stepped T H' 0 v n d) (sym one) (own_frees p (g v n i l) H' m short e nz alone same l free)))
        (λ x j a c ne. subst (λ d. Stepped T H' (W x j) x j d) (sym (rest x j a c ne))
        (still_stepped H' (holds_same {H = H} {H' = H'} m x j same (λ h. ne (sym h ∙ held)) (λ h. seat_some x j c (sym h ∙ free))) p (g x j a c)))
