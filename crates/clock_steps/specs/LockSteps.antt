-- `ask` and `free` on a board that is in step.
use Rattle.std.specs.Prelude.{ℕ, ◌≡◌, refl, true, Ok}
use Rattle.std.proofs.Common.{sym, ap, subst, ◌∙◌, ⊎_elim, arith}
use Rattle.laws.specs.BoolLaws.{bool_cases, same_or_not}
use Rattle.board_rules.specs.Facts.{Facts}
use Rattle.board_rules.specs.declared.Board.{Board}
use Rattle.board_rules.specs.declared.Event.TheVariants.{Ask, Free}
use Rattle.board_rules.specs.declared.Next.{Next}
use Rattle.board_rules.specs.declared.Outcome.{Outcome}
use Rattle.board_rules.specs.Board.{seat, holder_of, wait_of, settled, with_holder, with_wait, handed_to, granted_local, may_have, ask_fault, free_fault, step, good}
use Rattle.board_keeps.specs.Fair.{InV, InM, sheet_v, sheet_n, sheet_m}
use Rattle.board_keeps.specs.Shaped.{Shaped, holder_shaped}
use Rattle.board_keeps.specs.Good.{good_sound}
use Rattle.board_keeps.specs.Change.{holder_new, wait_new}
use Rattle.board_rules.specs.Names.{seat_some}
use Rattle.board_rules.specs.Change.{holder_else, wait_else}
use Rattle.board_keeps.specs.Nexts.{GlobalNext, none_waits, top_waiter}
use Rattle.board_keeps.proofs.NextLaws.{global_next}
use Rattle.board_rules.specs.LocalNext.{LocalNext, no_waiter, top_fails, top_passes, local_next}
use Rattle.board_keeps.specs.Faults.{ask_clear, may_free, passes_free}
use Rattle.clock_rules.specs.Clock.{Timing}
use Rattle.clock_paced.specs.Paced.{Paced}
use Rattle.clock_steps.specs.InStep.{InStep}
use Rattle.clock_steps.specs.StepMoves.{given_in_step, waits_in_step}
use Rattle.clock_steps.specs.Taken.{ask_granted, ask_waits, free_global, free_local}

-- the tasks are in step on board b
abbrev pub InStepOn : Timing → Board → (ℕ → ℕ → ℕ) → Type 0
InStepOn T b D = InStep T (holder_of b) (wait_of b) D

-- settling changes marks alone
pub settled_in_step : (T : Timing) (F : Facts) (b : Board) (D : ℕ → ℕ → ℕ) → InStepOn T b D → InStepOn T (settled F b) D
unfolding settled
settled_in_step T F b D g = g

module _ {T : Timing} (p : Paced T) {b : Board} (s : Shaped b) (g : good T.facts b ≡ true) where
  -- `ask v n m` where a section on m begins: granted or not
  pub ask_in_step : {D : ℕ → ℕ → ℕ} (v n m : ℕ) → ask_fault T.facts b v n m ≡ Ok tt → T.begins v n (D v n) ≡ m → InStepOn T b D → InStepOn T (step T.facts b (Ask v n m)).board D
  ask_in_step {D} v n m e h k =
      let F = T.facts in
      let f = p.fair in
      let c = ask_clear F b v n m e in
      let i = sheet_v f v n m c.listed in
      let j = sheet_n f v n m c.listed in
      let l = sheet_m f v n m c.listed in
      ⊎_elim
      (λ q. subst (λ (o : Outcome). InStepOn T o.board D) (sym (ask_granted F b v n m e q))
      (settled_in_step T F (with_holder b m (seat v n)) D
      (given_in_step p k v n i j (holder_of (with_holder b m (seat v n))) (wait_of b) m l h (may_free f b v n m c.listed l (c.no_hold m l) q) (holder_new s m (seat v n) l)
      (λ x a ne. holder_else b m (seat v n) x l a ne) c.no_wait (λ x y a d ne. refl))))
      (λ q. subst (λ (o : Outcome). InStepOn T o.board D) (sym (ask_waits F b v n m e q))
      (settled_in_step T F (with_wait b v n m) D
      (waits_in_step p k v n i j (wait_of (with_wait b v n m)) m h (wait_new s v n m i j) (λ x y a d ne. wait_else b v n m x y i j a d ne))))
      (bool_cases (may_have F b v n m))

  -- a freed global mutex is handed on: `k` is of the board with m free
  global_in_step : {D : ℕ → ℕ → ℕ} (m : ℕ) → InM m → InStepOn T (with_holder b m 0) D → {x : Next} → GlobalNext b m x → InStepOn T (handed_to b m x) D
  global_in_step m l k (none_waits h) = k
  global_in_step {D} m l k (top_waiter w n h) =
      let i = h.v_in in
      let j = h.n_in in
      let b₁ = with_holder b m (seat w n) in
      given_in_step p k w n i j (holder_of b₁) (wait_of (with_wait b₁ w n 0)) m l
      ((k w n i j).waits_at (λ z. let q = h.waited in let a = l.from in omega arith) ∙ h.waited) (holder_new s m 0 l) (holder_new s m (seat w n) l)
      (λ x a ne. holder_else b m (seat w n) x l a ne ∙ sym (holder_else b m 0 x l a ne))
      (wait_new (holder_shaped m (seat w n) s) w n 0 i j) (λ x y a d ne. wait_else b₁ w n 0 x y i j a d ne)

  -- a freed local mutex of v, and the highest local waiter served
  local_in_step : {D : ℕ → ℕ → ℕ} (v m : ℕ) → InV v → InM m → InStepOn T (with_holder b m 0) D → {x : Next} → LocalNext T.facts (with_holder b m 0) v x →
      InStepOn T (granted_local (with_holder b m 0) x) D
  local_in_step v m i l k (no_waiter h) = k
  local_in_step v m i l k (top_fails t e h) = k
  local_in_step {D} v m i l k (top_passes t q r e h) =
      let F = T.facts in
      let f = p.fair in
      let o = (good_sound F b g).holding in
      let a = wait_of b v t in
      let b₁ = with_holder b m 0 in
      let b₂ = with_holder b₁ a (seat v t) in
      let y = o.wait_listed v t i q r.some_wait in
      let c = sheet_m f v t a y in
      given_in_step p k v t i q (holder_of b₂) (wait_of (with_wait b₂ v t 0)) a c ((k v t i q).waits_at r.some_wait)
      (passes_free f b₁ v t a y (f.local_only v a r.is_local_law) c
      (λ z. ⊎_elim (λ u. seat_some v t q (sym z ∙ ap (holder_of b₁) u ∙ holder_new s m 0 l)) (λ ne. r.some_wait (o.holder_idle v t a i q c (sym (holder_else b m 0 a l c ne) ∙ z))) (same_or_not a m)) e)
      (holder_new (holder_shaped m 0 s) a (seat v t) c) (λ x d ne. holder_else b₁ a (seat v t) x c d ne)
      (wait_new (holder_shaped a (seat v t) (holder_shaped m 0 s)) v t 0 i q) (λ x z d u ne. wait_else b₂ v t 0 x z i q d u ne)

  -- `free v n m` where m alone was held, and the board with m free is in step
  pub free_in_step : {D : ℕ → ℕ → ℕ} (v n m : ℕ) → InV v → InM m → free_fault T.facts b v n m ≡ Ok tt → InStepOn T (with_holder b m 0) D → InStepOn T (step T.facts b (Free v n m)).board D
  free_in_step {D} v n m i l e k =
      let F = T.facts in
      ⊎_elim
      (λ q. subst (λ (o : Outcome). InStepOn T o.board D) (sym (free_global F b v n m e q)) (settled_in_step T F _ D (global_in_step m l k (global_next b m))))
      (λ q. subst (λ (o : Outcome). InStepOn T o.board D) (sym (free_local F b v n m e q)) (settled_in_step T F _ D (local_in_step v m i l k (local_next F (with_holder b m 0) v))))
      (bool_cases (F.global m))
