-- "An event on one VCPU's local mutexes changes no other VCPU's record and no global mutex": neither who holds it nor who waits for it.
use Rattle.std.specs.Prelude.{ℕ, ◌≡◌, true, ◌↔◌, Ok, Err}
use Rattle.std.proofs.Math.Path.{refl}
use Rattle.std.proofs.Common.{sym, ap, ◌∙◌, arith}
use Rattle.std.proofs.Math.Logic.{⊎_elim}
use Rattle.laws.specs.BoolLaws.{clash, bool_cases, same_or_not}
use Rattle.plan.specs.Refusals.{Fault}
use Rattle.board_rules.specs.Facts.{Facts}
use Rattle.board_rules.specs.declared.Board.{Board}
use Rattle.board_rules.specs.declared.Event.TheVariants.{Ask, Free}
use Rattle.board_rules.specs.declared.Next.{Next}
use Rattle.board_rules.specs.Board.{seat, is_stopped, holder_of, wait_of, settled, with_holder, with_wait, granted_local, may_have, asked, freed, freed_local, answered, ask_fault, free_fault, step, good}
use Rattle.board_rules.specs.Names.{seat_one}
use Rattle.board_rules.specs.Change.{stopped_else, holder_else, wait_else}
use Rattle.board_rules.specs.LocalNext.{LocalNext, no_waiter, top_fails, top_passes, local_next}
use Rattle.board_rules.specs.Settle.{settled_at}
use Rattle.board_rules.specs.SettleEvents.{settle_grant, settle_wait, settle_local}
use Rattle.board_keeps.specs.Fair.{Fair, InV, InN, InM, task_v, sheet_v, sheet_n, sheet_m}
use Rattle.board_keeps.specs.Shaped.{Shaped, holder_shaped}
use Rattle.board_keeps.specs.Good.{good_marked, good_sound}
use Rattle.board_keeps.specs.Change.{wait_new}
use Rattle.board_keeps.specs.Faults.{ask_clear, FreeClear, free_clear}

-- what b' leaves of b: all budgets and overruns; marks and waits of VCPUs other than v; mutexes that are not local to v, and who waits for a global one
pub record Untouched (F : Facts) (v : ℕ) (b b' : Board) : Type 0 where
  pub left_same : b'.left ≡ b.left
  pub over_same : b'.over ≡ b.over
  pub stopped_same : (w : ℕ) → InV w → (w ≡ v → ⊥) → is_stopped b' w ≡ is_stopped b w
  pub wait_same : (w n : ℕ) → InV w → InN n → (w ≡ v → ⊥) → wait_of b' w n ≡ wait_of b w n
  -- of every mutex that is not local to v: global ones, and other VCPUs' local ones
  pub holder_same : (k : ℕ) → InM k → (F.local_to v k ≡ true → ⊥) → holder_of b' k ≡ holder_of b k
  -- of every global mutex, v's own tasks among them
  pub waiters_same : (w n k : ℕ) → InV w → InN n → InM k → F.global k ≡ true → (wait_of b' w n ≡ k) ↔ (wait_of b w n ≡ k)

-- x is no global mutex
abbrev NotGlobal : Facts → ℕ → Type 0
NotGlobal F x = (k : ℕ) → InM k → F.global k ≡ true → x ≡ k → ⊥

none_global : (F : Facts) → NotGlobal F 0
none_global F k i e z = let l = i.from in omega arith

local_global : {F : Facts} → Fair F → (v m : ℕ) → F.local_to v m ≡ true → NotGlobal F m
local_global {F} f v m l k i e z = clash (ap F.global z ∙ e) (f.local_only v m l)

-- no event
pub untouched : (F : Facts) (v : ℕ) (b : Board) → Untouched F v b b
untouched F v b = record {
  left_same = refl;
  over_same = refl;
  stopped_same = λ w i ne. refl;
  wait_same = λ w n i j ne. refl;
  holder_same = λ k i l. refl;
  waiters_same = λ w n k i j l g. (λ e. e, λ e. e);
}

module _ {F : Facts} {b : Board} (v : ℕ) (i : InV v) where
  -- v's mark alone is settled
  settled_untouched : (b' : Board) → settled F b' ≡ settled_at F b' v → Untouched F v b b' → Untouched F v b (settled F b')
  settled_untouched b' e u = rw e (record {
    left_same = u.left_same;
    over_same = u.over_same;
    stopped_same = λ w j ne. stopped_else b' v _ w i j ne ∙ u.stopped_same w j ne;
    wait_same = u.wait_same;
    holder_same = u.holder_same;
    waiters_same = u.waiters_same;
  })

  -- a local mutex of v changes hands
  holder_untouched : (b' : Board) (m h : ℕ) → InM m → F.local_to v m ≡ true → Untouched F v b b' → Untouched F v b (with_holder b' m h)
  holder_untouched b' m h k loc u = record {
    left_same = u.left_same;
    over_same = u.over_same;
    stopped_same = u.stopped_same;
    wait_same = u.wait_same;
    holder_same = λ x a ne. holder_else b' m h x k a (λ e. ne (ap (F.local_to v) e ∙ loc)) ∙ u.holder_same x a ne;
    waiters_same = u.waiters_same;
  }

  -- a task of v waits, or waits no more, and not for a global mutex
  wait_waiters :
      (b' : Board) (n m : ℕ) → Shaped b' → InN n → NotGlobal F (wait_of b' v n) → NotGlobal F m → Untouched F v b b' →
      (w x k : ℕ) → InV w → InN x → InM k → F.global k ≡ true → (wait_of (with_wait b' v n m) w x ≡ k) ↔ (wait_of b w x ≡ k)
  wait_waiters b' n m s j p q u w x k a c l g =
      ⊎_elim
      (λ e.
      let z = seat_one w x v n a c i j e in
      let h : wait_of (with_wait b' v n m) w x ≡ m = rw (z.0, z.1) (wait_new s v n m i j) in
      let t : wait_of b' w x ≡ wait_of b' v n = rw (z.0, z.1) in
      (λ y. absurd (q k l g (sym h ∙ y)), λ y. absurd (p k l g (sym t ∙ (u.waiters_same w x k a c l g).1 y))))
      (λ ne.
      let h = wait_else b' v n m w x i j a c ne in
      (λ y. (u.waiters_same w x k a c l g).0 (sym h ∙ y), λ y. h ∙ (u.waiters_same w x k a c l g).1 y))
      (same_or_not (seat w x) (seat v n))

  wait_untouched : (b' : Board) (n m : ℕ) → Shaped b' → InN n → NotGlobal F (wait_of b' v n) → NotGlobal F m → Untouched F v b b' → Untouched F v b (with_wait b' v n m)
  wait_untouched b' n m s j p q u = record {
    left_same = u.left_same;
    over_same = u.over_same;
    stopped_same = u.stopped_same;
    wait_same = λ w x a c ne. wait_else b' v n m w x i j a c (λ e. ne (seat_one w x v n a c i j e).0) ∙ u.wait_same w x a c ne;
    holder_same = u.holder_same;
    waiters_same = wait_waiters b' n m s j p q u;
  }

module _ {F : Facts} {b : Board} (f : Fair F) (s : Shaped b) (g : good F b ≡ true) (v n m : ℕ) (loc : F.local_to v m ≡ true) where
  pub ask_local : Untouched F v b (step F b (Ask v n m)).board
  unfolding step asked
  ask_local = at_fault (ask_fault F b v n m) refl
    where
      at_fault : (x : Fault) → ask_fault F b v n m ≡ x → Untouched F v b (answered b x (asked F b v n m)).board
      at_fault (Ok tt) e =
          let c = ask_clear F b v n m e in
          let l = c.listed in
          let i = sheet_v f v n m l in
          ⊎_elim
          (λ h. rw h (settled_untouched v i (with_holder b m (seat v n)) (settle_grant F b s.stopped_long (good_marked F b g) v n m i (sheet_m f v n m l) h) (holder_untouched v i b m (seat v n) (sheet_m f v n m l) loc (untouched F v b))))
          (λ h. rw h (settled_untouched v i (with_wait b v n m) (settle_wait F b s.stopped_long (good_marked F b g) v n m i) (wait_untouched v i b n m s (sheet_n f v n m l) (λ k j g z. none_global F k j g (sym c.no_wait ∙ z)) (local_global f v m loc) (untouched F v b))))
          (bool_cases (may_have F b v n m))
      at_fault (Err r) e = untouched F v b

  pub free_local : Untouched F v b (step F b (Free v n m)).board
  unfolding step freed freed_local
  free_local = at_fault (free_fault F b v n m) refl
    where
      to : FreeClear F b v n m → {w : Next} → LocalNext F (with_holder b m 0) v w → Untouched F v b (granted_local (with_holder b m 0) w)
      to c (no_waiter h) = holder_untouched v (task_v f v n c.task) b m 0 (f.mutex_in m c.mutex) loc (untouched F v b)
      to c (top_fails t e h) = holder_untouched v (task_v f v n c.task) b m 0 (f.mutex_in m c.mutex) loc (untouched F v b)
      to c (top_passes t q r e h) =
          let i = task_v f v n c.task in
          wait_untouched v i (with_holder (with_holder b m 0) (wait_of b v t) (seat v t)) t 0 (holder_shaped (wait_of b v t) (seat v t) (holder_shaped m 0 s)) q (local_global f v (wait_of b v t) r.is_local_law) (none_global F)
          (holder_untouched v i (with_holder b m 0) (wait_of b v t) (seat v t) (sheet_m f v t _ ((good_sound F b g).holding.wait_listed v t i q r.some_wait)) r.is_local_law
          (holder_untouched v i b m 0 (f.mutex_in m c.mutex) loc (untouched F v b)))

      at_fault : (x : Fault) → free_fault F b v n m ≡ x → Untouched F v b (answered b x (freed F b v m)).board
      at_fault (Ok tt) e =
          let c = free_clear F b v n m e in
          let is_local_law = f.local_only v m loc in
          let i = task_v f v n c.task in
          rw is_local_law (settled_untouched v i _ (settle_local F b s.stopped_long (good_marked F b g) v m i (f.mutex_in m c.mutex) is_local_law (f.local_only v)) (to c (local_next F (with_holder b m 0) v)))
      at_fault (Err r) e = untouched F v b

-- a task of another VCPU asks for a local mutex of v, or frees it: nothing changes
module _ {F : Facts} (f : Fair F) (b : Board) (v w n m : ℕ) (loc : F.local_to v m ≡ true) (other : w ≡ v → ⊥) where
  not_listed : F.lists w n m ≡ true → ⊥
  not_listed l = other (f.local_one w v m (f.sheet_local w n m l (f.local_only v m loc)) loc)

  pub ask_elsewhere : (step F b (Ask w n m)).board ≡ b
  unfolding step
  ask_elsewhere = at_fault (ask_fault F b w n m) refl
    where
      at_fault : (x : Fault) → ask_fault F b w n m ≡ x → (answered b x (asked F b w n m)).board ≡ b
      at_fault (Ok tt) e = absurd (not_listed (ask_clear F b w n m e).listed)
      at_fault (Err r) e = refl

  pub free_elsewhere : good F b ≡ true → (step F b (Free w n m)).board ≡ b
  unfolding step
  free_elsewhere g = at_fault (free_fault F b w n m) refl
    where
      at_fault : (x : Fault) → free_fault F b w n m ≡ x → (answered b x (freed F b w m)).board ≡ b
      at_fault (Ok tt) e =
          let c = free_clear F b w n m e in
          absurd (not_listed ((good_sound F b g).holding.held_listed w n m (task_v f w n c.task) (f.task_in_law w n c.task) (f.mutex_in m c.mutex) c.held))
      at_fault (Err r) e = refl
