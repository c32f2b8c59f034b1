-- What an event of VCPU v leaves to the other VCPUs; where no mark is due and lacking, to settle v alone is then to settle the board.
use Rattle.std.specs.Prelude.{ℕ, ◌-◌, ◌<◌, ◌≡◌, refl, Bool, true, false, get_or, set, length}
use Rattle.std.proofs.Common.{sym, ◌∙◌, ⊎_elim, arith, get_or-set_same}
use Rattle.std.proofs.Math.Path.{ap}
use borrow.Author.Tests.{eqb-true}
use Rattle.std.proofs.lemmas.List.{set-get_or}
use Rattle.laws.specs.BoolLaws.{clash, is_false, same_or_not}
use Rattle.plan.specs.Limits.{max_v}
use Rattle.board_rules.specs.Facts.{Facts}
use Rattle.board_rules.specs.Names.{InV, InN, InM, seat_one, seat_some}
use Rattle.board_rules.specs.Board.{Board, Next, Nobody, To, seat, left_of, is_stopped, holder_of, holds_global, wait_of, with_left, with_stopped, with_holder, with_wait, settled, must_stop, may_have, handed_to, granted_local, next_local}
use Rattle.board_rules.specs.Change.{left_else, stopped_else, holder_off, holder_else}
use Rattle.board_rules.specs.LocalNext.{LocalNext, no_waiter, top_fails, top_passes, local_next}
use Rattle.board_rules.specs.Settle.{GlobalHold, Marked, due, still_not_due, settled_stopped, mark_stays, settled_at, settle_one}

-- from b to b' each VCPU other than v keeps its mark and what is left of its budget (b, not o), and its tasks the global mutexes that they held;
-- they may get more, and waits may end
pub record OthersKeep (F : Facts) (v : ℕ) (b b' : Board) : Type 0 where
  pub left_kept : (w : ℕ) → InV w → (w ≡ v → ⊥) → left_of b' w ≡ left_of b w
  pub mark_kept : (w : ℕ) → InV w → (w ≡ v → ⊥) → is_stopped b' w ≡ is_stopped b w
  pub hold_kept : (w n m : ℕ) → InV w → (w ≡ v → ⊥) → InN n → InM m → F.global m ≡ true → holder_of b m ≡ seat w n → holder_of b' m ≡ seat w n

-- no task of a VCPU other than v holds m
abbrev pub OwnHeld : Board → ℕ → ℕ → Type 0
OwnHeld b v m = (w n : ℕ) → InV w → InN n → holder_of b m ≡ seat w n → w ≡ v

pub own_held : (b : Board) (v n m : ℕ) → InV v → InN n → holder_of b m ≡ seat v n → OwnHeld b v m
own_held b v n m i l e w x j p z = (seat_one w x v n j p i l (sym z ∙ e)).0

-- where no mark is due and lacking in b, none of theirs is in b'
module _ (F : Facts) {b : Board} (g : Marked F b) {v : ℕ} {b' : Board} (k : OthersKeep F v b b') where
  pub none_due : (w : ℕ) → InV w → (w ≡ v → ⊥) → is_stopped b' w ≡ false → must_stop F b' w ≡ false
  none_due w j ne e = still_not_due F b b' w (k.left_kept w j ne) holds_on (g w j (sym (k.mark_kept w j ne) ∙ e))
    where
      holds_on : GlobalHold F (holder_of b) w → GlobalHold F (holder_of b') w
      holds_on r = record { m = r.m; n = r.n; m_in = r.m_in; n_in = r.n_in; is_global_law = r.is_global_law; held = k.hold_kept w r.n r.m j ne r.n_in r.m_in r.is_global_law r.held }

  pub keep_settles : length b'.stopped ≡ max_v → InV v → settled F b' ≡ settled_at F b' v
  keep_settles s i = settle_one F b' v s i none_due

  pub keep_mark : (w : ℕ) → InV w → (w ≡ v → ⊥) → is_stopped (settled F b') w ≡ is_stopped b w
  keep_mark w j ne = settled_stopped F b' w j ∙ mark_stays F b' w (none_due w j ne) ∙ k.mark_kept w j ne

module _ (F : Facts) (b : Board) where
  -- `ask v n m` that waits
  pub wait_keeps : (v n m : ℕ) → OthersKeep F v b (with_wait b v n m)
  wait_keeps v n m = record { left_kept = λ w j ne. refl; mark_kept = λ w j ne. refl; hold_kept = λ w n m j ne p q r z. z }

  -- a change that leaves all budgets and marks
  locks_keep : (b' : Board) (v : ℕ) → b'.left ≡ b.left → b'.stopped ≡ b.stopped →
      ((w n m : ℕ) → InV w → (w ≡ v → ⊥) → InN n → InM m → F.global m ≡ true → holder_of b m ≡ seat w n → holder_of b' m ≡ seat w n) →
      OthersKeep F v b b'
  locks_keep b' v l t h = record {
    left_kept = λ w j ne. ap (λ x. get_or x (w - 1) 0) l;
    mark_kept = λ w j ne. ap (λ x. get_or x (w - 1) false) t;
    hold_kept = h;
  }

  -- `ask v n m` that is granted: who held a global mutex holds it still
  pub grant_holds : (v n m : ℕ) → InM m → may_have F b v n m ≡ true →
      (w x y : ℕ) → InN x → InM y → F.global y ≡ true → holder_of b y ≡ seat w x → holder_of (with_holder b m (seat v n)) y ≡ seat w x
  unfolding may_have
  grant_holds v n m k e w x y p q r z =
      holder_else b m (seat v n) y k q
      (λ a. let free : holder_of b m ≡ 0 = eqb-true (holder_of b m) 0 (rw (ap F.global (sym a) ∙ r) at e) in seat_some w x p (sym z ∙ ap (holder_of b) a ∙ free)) ∙ z

  pub grant_keeps : (v n m : ℕ) → InM m → may_have F b v n m ≡ true → OthersKeep F v b (with_holder b m (seat v n))
  grant_keeps v n m k e = locks_keep (with_holder b m (seat v n)) v refl refl (λ w x y j ne p q r z. grant_holds v n m k e w x y p q r z)

  -- `free v n m` of a global mutex that no task of another VCPU held, whoever gets it
  pub global_keeps : (v m : ℕ) → InM m → OwnHeld b v m → (x : Next) → OthersKeep F v b (handed_to b m x)
  global_keeps v m k own = to
    where
      stays : (h w x y : ℕ) → InV w → (w ≡ v → ⊥) → InN x → InM y → holder_of b y ≡ seat w x → holder_of (with_holder b m h) y ≡ seat w x
      stays h w x y j ne p q z = holder_else b m h y k q (λ a. ne (own w x j p (sym (ap (holder_of b) a) ∙ z))) ∙ z

      to : (x : Next) → OthersKeep F v b (handed_to b m x)
      to Nobody = locks_keep (with_holder b m 0) v refl refl (λ w x y j ne p q r z. stays 0 w x y j ne p q z)
      to (To c d) = locks_keep (handed_to b m (To c d)) v refl refl (λ w x y j ne p q r z. stays (seat c d) w x y j ne p q z)

  -- `free v n m` of a local mutex, where no local mutex of v is global
  pub local_keeps : (v m : ℕ) → InM m → F.global m ≡ false → ((k : ℕ) → F.local_to v k ≡ true → F.global k ≡ false) →
      OthersKeep F v b (granted_local (with_holder b m 0) (next_local F (with_holder b m 0) v))
  local_keeps v m k loc only = to (local_next F (with_holder b m 0) v)
    where
      -- a global mutex is not m
      stays : (y : ℕ) → InM y → F.global y ≡ true → holder_of (with_holder b m 0) y ≡ holder_of b y
      stays y q r = holder_else b m 0 y k q (λ a. clash r (ap F.global a ∙ loc))

      to : {x : Next} → LocalNext F (with_holder b m 0) v x → OthersKeep F v b (granted_local (with_holder b m 0) x)
      to (no_waiter h) = locks_keep (with_holder b m 0) v refl refl (λ w x y j ne p q r z. stays y q r ∙ z)
      to (top_fails t h l) = locks_keep (with_holder b m 0) v refl refl (λ w x y j ne p q r z. stays y q r ∙ z)
      to (top_passes t a c d l) =
          locks_keep (granted_local (with_holder b m 0) (To v t)) v refl refl
          (λ w x y j ne p q r z.
          holder_off (with_holder b m 0) (wait_of b v t) (seat v t) y (ne_zero c.some_wait) q.from (λ u. clash r (ap F.global u ∙ only _ c.is_local_law))
          ∙ stays y q r ∙ z)
        where
          ne_zero : (wait_of b v t ≡ 0 → ⊥) → 0 < wait_of b v t
          ne_zero nz = omega arith

  -- `use v t`
  pub use_keeps : (v l o : ℕ) → InV v → OthersKeep F v b (with_left b v l o)
  use_keeps v l o i = record { left_kept = λ w j ne. left_else b v l o w i j ne; mark_kept = λ w j ne. refl; hold_kept = λ w n m j ne p q r z. z }

  -- `top v`
  pub top_keeps : (v l o : ℕ) (t : Bool) → InV v → OthersKeep F v b (with_stopped (with_left b v l o) (set b.stopped (v - 1) t))
  top_keeps v l o t i = record { left_kept = λ w j ne. left_else b v l o w i j ne; mark_kept = λ w j ne. stopped_else b v t w i j ne; hold_kept = λ w n m j ne p q r z. z }

-- EVENT BY EVENT: v alone is to be settled

handed_long : (b : Board) (m : ℕ) (x : Next) → (handed_to b m x).stopped ≡ b.stopped
handed_long b m Nobody = refl
handed_long b m (To v n) = refl

granted_long : (b : Board) (x : Next) → (granted_local b x).stopped ≡ b.stopped
granted_long b Nobody = refl
granted_long b (To v n) = refl

module _ (F : Facts) (b : Board) (s : length b.stopped ≡ max_v) (g : Marked F b) where
  pub settle_wait : (v n m : ℕ) → InV v → settled F (with_wait b v n m) ≡ settled_at F (with_wait b v n m) v
  settle_wait v n m i = keep_settles F g (wait_keeps F b v n m) s i

  pub settle_grant : (v n m : ℕ) → InV v → InM m → may_have F b v n m ≡ true → settled F (with_holder b m (seat v n)) ≡ settled_at F (with_holder b m (seat v n)) v
  settle_grant v n m i k e = keep_settles F g (grant_keeps F b v n m k e) s i

  pub settle_global : (v m : ℕ) → InV v → InM m → OwnHeld b v m → (x : Next) → settled F (handed_to b m x) ≡ settled_at F (handed_to b m x) v
  settle_global v m i k own x = keep_settles F g (global_keeps F b v m k own x) (ap length (handed_long b m x) ∙ s) i

  pub settle_local : (v m : ℕ) → InV v → InM m → F.global m ≡ false → ((k : ℕ) → F.local_to v k ≡ true → F.global k ≡ false) →
      settled F (granted_local (with_holder b m 0) (next_local F (with_holder b m 0) v)) ≡ settled_at F (granted_local (with_holder b m 0) (next_local F (with_holder b m 0) v)) v
  settle_local v m i k loc only =
      keep_settles F g (local_keeps F b v m k loc only) (ap length (granted_long (with_holder b m 0) (next_local F (with_holder b m 0) v)) ∙ s) i

  pub settle_use : (v l o : ℕ) → InV v → settled F (with_left b v l o) ≡ settled_at F (with_left b v l o) v
  settle_use v l o i = keep_settles F g (use_keeps F b v l o i) s i

-- NO MARK IS DUE AFTER `ask` AND `top` where none was due and lacking: the board is settled as it is
pub settled_still : (F : Facts) (b : Board) → length b.stopped ≡ max_v → Marked F b → settled F b ≡ b
settled_still F b s k =
    let i : InV 1 = record { from = omega arith; to = omega arith } in
    settle_one F b 1 s i (λ w j ne. k w j) ∙ ap (λ t. with_stopped b (set b.stopped 0 t)) (mark_stays F b 1 (k 1 i)) ∙ ap (with_stopped b) (set-get_or b.stopped 0 false)

module _ (F : Facts) (b : Board) (k : Marked F b) where
  pub wait_marked : (v n m : ℕ) → Marked F (with_wait b v n m)
  unfolding must_stop holds_global
  wait_marked v n m = k

  pub grant_marked : (v n m : ℕ) → InM m → may_have F b v n m ≡ true → Marked F (with_holder b m (seat v n))
  grant_marked v n m i e w j q = still_not_due F b (with_holder b m (seat v n)) w refl holds_on (k w j q)
    where
      holds_on : GlobalHold F (holder_of b) w → GlobalHold F (holder_of (with_holder b m (seat v n))) w
      holds_on r = record { m = r.m; n = r.n; m_in = r.m_in; n_in = r.n_in; is_global_law = r.is_global_law; held = grant_holds F b v n m i e w r.n r.m r.n_in r.m_in r.is_global_law r.held }

  -- a VCPU of the plan that has its budget is not stopped
  pub top_marked : ((w : ℕ) → F.has_vcpu w ≡ true → 0 < F.budget w) → (v o : ℕ) → InV v → length b.left ≡ max_v →
      Marked F (with_stopped (with_left b v (F.budget v) o) (set b.stopped (v - 1) false))
  top_marked f v o i n w j q = ⊎_elim own (λ ne. none_due F k (top_keeps F b v (F.budget v) o false i) w j ne q) (same_or_not w v)
    where
      full : left_of (with_left b v (F.budget v) o) v ≡ F.budget v
      full = get_or-set_same b.left (v - 1) (F.budget v) 0 (let x = i.from in let y = i.to in omega (arith, n))

      own : w ≡ v → must_stop F (with_stopped (with_left b v (F.budget v) o) (set b.stopped (v - 1) false)) w ≡ false
      own e =
          rw e
          (is_false (must_stop F (with_stopped (with_left b v (F.budget v) o) (set b.stopped (v - 1) false)) v) (λ t.
          let d = due F (with_stopped (with_left b v (F.budget v) o) (set b.stopped (v - 1) false)) v t in
          let h = f v d.vcpu in
          let z = sym d.left ∙ full in omega arith))
