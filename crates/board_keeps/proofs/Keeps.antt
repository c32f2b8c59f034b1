-- A good board is good after every event, whatever is answered.
use Rattle.std.specs.Prelude.{ℕ, ◌-◌, ◌≤◌, ◌≡◌, refl, Bool, true, false, List, ◌⊎◌, get_or, set, Ok, Err}
use Rattle.std.proofs.Common.{sym, ap, subst, ◌∙◌, inl, inr, ⊎_elim, arith}
use Rattle.std.proofs.Math.Decide.{dec_le}
use borrow.Author.Tests.{eqb-false}
use Rattle.std.specs.Prelude.{if◌then◌else◌}
use Rattle.laws.specs.BoolLaws.{clash, bool_cases, same_or_not, either_of}
use Rattle.plan.specs.Refusals.{Fault}
use Rattle.board_rules.specs.Facts.{Facts}
use Rattle.board_rules.specs.declared.Board.{Board}
use Rattle.board_rules.specs.declared.Event.{Event}
use Rattle.board_rules.specs.declared.Event.TheVariants.{Ask, Free, Use, Top, Show}
use Rattle.board_rules.specs.declared.Next.{Next}
use Rattle.board_rules.specs.Board.{seat, left_of, over_of, is_stopped, holder_of, wait_of, must_stop, settled, with_left, with_stopped, with_holder, with_wait, handed_to, granted_local, may_have, asked, freed, freed_global, freed_local, used, topped, shown, answered, ask_fault, free_fault, use_fault, top_fault, show_fault, step, good}
use Rattle.board_rules.specs.Names.{seat_one, seat_some}
use Rattle.board_rules.specs.Change.{left_else, over_else, stopped_else, holder_else, wait_else}
use Rattle.board_rules.specs.LocalNext.{LocalNext, no_waiter, top_fails, top_passes, local_next, LocalWait}
use Rattle.board_rules.specs.Settle.{due, settled_stopped, settled_marked}
use Rattle.board_keeps.specs.Fair.{Fair, InV, InN, InM, task_v, sheet_v, sheet_n, sheet_m}
use Rattle.board_keeps.specs.Shaped.{Shaped, holder_shaped}
use Rattle.board_keeps.specs.Locks.{Barred, Holding}
use Rattle.board_keeps.specs.Good.{Budgeted, Sound, barred, good_sound, sound_good}
use Rattle.board_keeps.specs.Change.{left_new, over_new, stopped_new, holder_new, wait_new}
use Rattle.board_keeps.specs.Nexts.{GlobalNext, none_waits, top_waiter}
use Rattle.board_keeps.proofs.NextLaws.{global_next}
use Rattle.board_keeps.specs.Faults.{AskClear, FreeClear, ask_clear, free_clear, use_clear, top_clear, may_free}
use Rattle.board_keeps.specs.Moves.{HoldersBut, WaitsBut, WaitsFrom, waits_from, release_holding, grant_holding, clear_holding, await_holding, grant_waiting, await_waiting, global_waiting, local_waiting}

-- A SETTLED BOARD IS GOOD where the board before was sound

settled_sound : {F : Facts} {b : Board} → Sound F b → Sound F (settled F b)
unfolding settled
settled_sound {F} {b} s = record { budgets = each; holding = s.holding; waiting = s.waiting }
  where
    each : (v : ℕ) → InV v → Budgeted F v (left_of b v) (over_of b v) (is_stopped (settled F b) v)
    each v i =
        let r = s.budgets v i in
        let marked : is_stopped (settled F b) v ≡ true → (is_stopped b v ≡ true) ⊎ (must_stop F b v ≡ true) =
        λ e. either_of (is_stopped b v) (must_stop F b v) (sym (settled_stopped F b v i) ∙ e) in
        record {
          left_le = r.left_le;
          over_le = r.over_le;
          budget_first = r.budget_first;
          mark_policy = λ e. ⊎_elim r.mark_policy (λ d. (due F b v d).policy) (marked e);
          mark_vcpu = λ e. ⊎_elim r.mark_vcpu (λ d. (due F b v d).vcpu) (marked e);
          mark_left = λ e. ⊎_elim r.mark_left (λ d. (due F b v d).left) (marked e);
        }

pub settled_good : {F : Facts} {b : Board} → Fair F → Sound F b → good F (settled F b) ≡ true
settled_good {F} {b} f s = sound_good F (settled F b) f (settled_sound s) (settled_marked F b)

module _ {F : Facts} {b : Board} (f : Fair F) (s : Shaped b) (g : Sound F b) where
  -- v's budget, overrun and mark change
  put_sound : (v l o : ℕ) (ss : List Bool) → InV v → Budgeted F v l o (get_or ss (v - 1) false) →
      ((w : ℕ) → InV w → (w ≡ v → ⊥) → get_or ss (w - 1) false ≡ is_stopped b w) → Sound F (with_stopped (with_left b v l o) ss)
  put_sound v l o ss i own kept = record { budgets = each; holding = g.holding; waiting = g.waiting }
    where
      each : (w : ℕ) → InV w → Budgeted F w (left_of (with_left b v l o) w) (over_of (with_left b v l o) w) (get_or ss (w - 1) false)
      each w j =
          ⊎_elim (λ e. rw e (rw (left_new s v l o i, over_new s v l o i) own))
          (λ ne. rw (left_else b v l o w i j ne, over_else b v l o w i j ne, kept w j ne) (g.budgets w j)) (same_or_not w v)

  -- `use v t` takes budget first, then overrun
  use_sound : (v t : ℕ) → InV v → Sound F (with_left b v (left_of b v - t) (over_of b v - (t - left_of b v)))
  use_sound v t i = put_sound v (left_of b v - t) (over_of b v - (t - left_of b v)) b.stopped i own (λ w j ne. refl)
    where
      first : over_of b v ≡ F.overrun v → Dec (t ≤ left_of b v) → (over_of b v - (t - left_of b v) ≡ F.overrun v) ⊎ (left_of b v - t ≡ 0)
      first e (yes h) = inl (omega arith)
      first e (no h) = inr (omega arith)

      own : Budgeted F v (left_of b v - t) (over_of b v - (t - left_of b v)) (is_stopped b v)
      own =
          let r = g.budgets v i in
          record {
            left_le = let h = r.left_le in omega arith;
            over_le = let h = r.over_le in omega arith;
            budget_first = ⊎_elim (λ e. first e (dec_le t (left_of b v))) (λ e. inr (omega arith)) r.budget_first;
            mark_policy = r.mark_policy;
            mark_vcpu = r.mark_vcpu;
            mark_left = λ e. let z = r.mark_left e in omega arith;
          }

  -- `top v` fills both and clears the mark
  top_sound : (v : ℕ) → InV v → Sound F (with_stopped (with_left b v (F.budget v) (F.overrun v)) (set b.stopped (v - 1) false))
  top_sound v i =
      put_sound v (F.budget v) (F.overrun v) (set b.stopped (v - 1) false) i (rw (stopped_new s v false i) own) (λ w j ne. stopped_else b v false w i j ne)
    where
      own : Budgeted F v (F.budget v) (F.overrun v) false
      own = record {
        left_le = omega arith;
        over_le = omega arith;
        budget_first = inl refl;
        mark_policy = λ e. absurd (clash e refl);
        mark_vcpu = λ e. absurd (clash e refl);
        mark_left = λ e. absurd (clash e refl);
      }

  -- `ask v n m`

  ask_granted : (v n m : ℕ) → AskClear F b v n m → may_have F b v n m ≡ true → Sound F (with_holder b m (seat v n))
  ask_granted v n m c h =
      let i = sheet_v f v n m c.listed in
      let j = sheet_n f v n m c.listed in
      let k = sheet_m f v n m c.listed in
      let H' = holder_of (with_holder b m (seat v n)) in
      let new = holder_new s m (seat v n) k in
      let same : HoldersBut m H' (holder_of b) = λ x a ne. holder_else b m (seat v n) x k a ne in
      record {
        budgets = g.budgets;
        holding = grant_holding g.holding H' v n m i j k c.listed c.no_wait c.no_hold new same;
        waiting = grant_waiting f g.holding g.waiting H' m (may_free f b v n m c.listed k (c.no_hold m k) h) (λ e. seat_some v n j (sym new ∙ e)) same;
      }

  ask_waits : (v n m : ℕ) → AskClear F b v n m → may_have F b v n m ≡ false → Sound F (with_wait b v n m)
  unfolding may_have
  ask_waits v n m c h =
      let i = sheet_v f v n m c.listed in
      let j = sheet_n f v n m c.listed in
      let W' = wait_of (with_wait b v n m) in
      let new = wait_new s v n m i j in
      let same : WaitsBut v n W' (wait_of b) = λ x y a d ne. wait_else b v n m x y i j a d ne in
      record {
        budgets = g.budgets;
        holding = await_holding g.holding W' v n m i j c.listed c.no_hold new same;
        waiting = await_waiting f g.holding g.waiting W' v n m i j new same (λ e. eqb-false (holder_of b m) 0 (rw e at h)) (λ e. barred F b v n (rw e at h));
      }

  -- `free v n m` OF A GLOBAL MUTEX

  free_global : (m : ℕ) → InM m → F.global m ≡ true → {w : Next} → GlobalNext b m w → Sound F (handed_to b m w)
  free_global m k e (none_waits h) =
      let same : HoldersBut m (holder_of (with_holder b m 0)) (holder_of b) = λ x a ne. holder_else b m 0 x k a ne in
      record {
        budgets = g.budgets;
        holding = release_holding g.holding (holder_of (with_holder b m 0)) m k (holder_new s m 0 k) same;
        waiting = global_waiting f g.holding g.waiting (holder_of (with_holder b m 0)) (wait_of b) m e same (λ x j i l nz. refl) (λ x j i l q z. h x j i l q);
      }
  free_global m k e (top_waiter w n h) =
      let i = h.v_in in
      let j = h.n_in in
      let q = h.waited in
      let b₁ = with_holder b m (seat w n) in
      let W' = wait_of (with_wait b₁ w n 0) in
      let new = holder_new s m (seat w n) k in
      let same : HoldersBut m (holder_of b₁) (holder_of b) = λ x a ne. holder_else b m (seat w n) x k a ne in
      let none = wait_new (holder_shaped m (seat w n) s) w n 0 i j in
      let from : WaitsFrom W' (wait_of b) = waits_from {W' = W'} {W = wait_of b} w n i j none (λ x y a c ne. wait_else b₁ w n 0 x y i j a c ne) in
      let some : wait_of b w n ≡ 0 → ⊥ = λ z. omega arith in
      record {
        budgets = g.budgets;
        holding = grant_holding (clear_holding g.holding W' from) (holder_of b₁) w n m i j k (subst (λ x. F.lists w n x ≡ true) q (g.holding.wait_listed w n i j some)) none
            (λ x a z. some (g.holding.holder_idle w n x i j a z)) new same;
        waiting = global_waiting f g.holding g.waiting (holder_of b₁) W' m e same from (λ x y a c z u. seat_some w n j (sym new ∙ u));
      }

  -- `free v n m` OF A LOCAL MUTEX

  module _ (v m : ℕ) (i : InV v) (k : InM m) (loc : F.local_to v m ≡ true) where
    released : Holding F (holder_of (with_holder b m 0)) (wait_of b)
    released = release_holding g.holding (holder_of (with_holder b m 0)) m k (holder_new s m 0 k) (λ x a ne. holder_else b m 0 x k a ne)

    -- only m is freed
    same_but : (x : ℕ) → InM x → (F.local_to v x ≡ true → ⊥) → holder_of (with_holder b m 0) x ≡ holder_of b x
    same_but x a ne = holder_else b m 0 x k a (λ e. ne (ap (F.local_to v) e ∙ loc))

    none_served : ((j : ℕ) → InN j → LocalWait F (with_holder b m 0) v j → Barred F (holder_of (with_holder b m 0)) v j) → Sound F (with_holder b m 0)
    none_served fails = record {
      budgets = g.budgets;
      holding = released;
      waiting = local_waiting f g.holding g.waiting (holder_of (with_holder b m 0)) (wait_of b) v same_but (λ x j p q nz. refl)
          (λ j q nz l. fails j q (record { some_wait = nz; is_local_law = l }));
    }

    free_local : {w : Next} → LocalNext F (with_holder b m 0) v w → Sound F (granted_local (with_holder b m 0) w)
    free_local (no_waiter h) = none_served (λ j q r. absurd (h j q r))
    free_local (top_fails t e h) =
        let c = barred F (with_holder b m 0) v t e in
        none_served (λ j q r. record {
          by = c.by;
          by_in = c.by_in;
          is_local_law = c.is_local_law;
          held = c.held;
          by_other = λ z. r.some_wait (released.holder_idle v j c.by i q c.by_in z);
          ceiling = let l = h j q r in let l2 = c.ceiling in omega arith;
        })
    free_local (top_passes t q r e h) =
        let a = wait_of b v t in
        let b₁ = with_holder b m 0 in
        let b₂ = with_holder b₁ a (seat v t) in
        let H' = holder_of b₂ in
        let W' = wait_of (with_wait b₂ v t 0) in
        let l = g.holding.wait_listed v t i q r.some_wait in
        let ka = sheet_m f v t a l in
        let new = holder_new (holder_shaped m 0 s) a (seat v t) ka in
        let none = wait_new (holder_shaped a (seat v t) (holder_shaped m 0 s)) v t 0 i q in
        let from : WaitsFrom W' (wait_of b) = waits_from {W' = W'} {W = wait_of b} v t i q none (λ x y c d ne. wait_else b₂ v t 0 x y i q c d ne) in
        record {
          budgets = g.budgets;
          holding = grant_holding (clear_holding released W' from) H' v t a i q ka l none (λ x c z. r.some_wait (released.holder_idle v t x i q c z)) new
              (λ x c ne. holder_else b₁ a (seat v t) x ka c ne);
          waiting = local_waiting f g.holding g.waiting H' W' v
              (λ x c ne. holder_else b₁ a (seat v t) x ka c (λ z. ne (ap (F.local_to v) z ∙ r.is_local_law)) ∙ same_but x c ne) from
              (λ j p nz z. record {
                by = a;
                by_in = ka;
                is_local_law = r.is_local_law;
                held = λ u. seat_some v t q (sym new ∙ u);
                by_other = λ u. nz (ap (W' v) (sym (seat_one v t v j i q i p (sym new ∙ u)).1) ∙ none);
                ceiling = let x = f.sheet_ceiling v t a l in let y = h j p (record { some_wait = λ u. nz (from v j i p nz ∙ u); is_local_law = z }) in omega arith;
              });
        }

-- EVERY EVENT

pub step_keeps : {F : Facts} {b : Board} → Fair F → Shaped b → good F b ≡ true → (e : Event) → good F (step F b e).board ≡ true
unfolding step asked freed freed_global freed_local used topped
step_keeps {F} {b} f s g (Ask v n m) = at_fault (ask_fault F b v n m) refl
  where
    at_fault : (x : Fault) → ask_fault F b v n m ≡ x → good F (answered b x (asked F b v n m)).board ≡ true
    at_fault (Ok tt) e = ⊎_elim
        (λ h. rw h (settled_good f (ask_granted f s (good_sound F b g) v n m (ask_clear F b v n m e) h)))
        (λ h. rw h (settled_good f (ask_waits f s (good_sound F b g) v n m (ask_clear F b v n m e) h)))
        (bool_cases (may_have F b v n m))
    at_fault (Err r) e = g
step_keeps {F} {b} f s g (Free v n m) = at_fault (free_fault F b v n m) refl
  where
    at_kind : FreeClear F b v n m → (t : Bool) → F.global m ≡ t → good F (if t then freed_global F b m else freed_local F b v m).board ≡ true
    at_kind c true e = settled_good f (free_global f s (good_sound F b g) m (f.mutex_in m c.mutex) e (global_next b m))
    at_kind c false e =
        let i = task_v f v n c.task in
        let k = f.mutex_in m c.mutex in
        settled_good f (free_local f s (good_sound F b g) v m i k
        (f.sheet_local v n m ((good_sound F b g).holding.held_listed v n m i (f.task_in_law v n c.task) k c.held) e) (local_next F (with_holder b m 0) v))

    at_fault : (x : Fault) → free_fault F b v n m ≡ x → good F (answered b x (freed F b v m)).board ≡ true
    at_fault (Ok tt) e = at_kind (free_clear F b v n m e) (F.global m) refl
    at_fault (Err r) e = g
step_keeps {F} {b} f s g (Use v t) = at_fault (use_fault F b v t) refl
  where
    at_fault : (x : Fault) → use_fault F b v t ≡ x → good F (answered b x (used F b v t)).board ≡ true
    at_fault (Ok tt) e = settled_good f (use_sound f s (good_sound F b g) v t (f.vcpu_in v (use_clear F b v t e).vcpu))
    at_fault (Err r) e = g
step_keeps {F} {b} f s g (Top v) = at_fault (top_fault F v) refl
  where
    at_fault : (x : Fault) → top_fault F v ≡ x → good F (answered b x (topped F b v)).board ≡ true
    at_fault (Ok tt) e = settled_good f (top_sound f s (good_sound F b g) v (f.vcpu_in v (top_clear F v e)))
    at_fault (Err r) e = g
step_keeps {F} {b} f s g (Show v n) = at_fault (show_fault F v n)
  where
    at_fault : (x : Fault) → good F (answered b x (shown F b v n)).board ≡ true
    at_fault (Ok tt) = g
    at_fault (Err r) = g
