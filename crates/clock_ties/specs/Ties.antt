-- No two ready tasks of a VCPU have the same priority, and no two VCPUs.
use Prim.Native.Nat.{ℕ, ◌+◌, ◌≤◌, ◌<◌, max}
use Rattle.std.specs.Prelude.{◌≡◌, refl, true, false, ◌&&◌}
use Rattle.std.proofs.Common.{sym, ap, subst, ◌∙◌, arith, eq-zero-or-pos}
use Rattle.std.proofs.Math.Bool.{Bool}
use Rattle.std.proofs.Math.Logic.{⊎_elim}
use Rattle.std.proofs.Math.Decide.{dec_le}
use borrow.Author.Tests.{leb-true, eqb-true, ne_eqb, eq-eqb}
use Rattle.std.proofs.Math.Dec.{leb}
use Rattle.std.specs.Prelude.{if◌then◌else◌}
use Rattle.laws.specs.Range.{highest}
use Rattle.laws.specs.RangeLaws.{highest_le, highest_passes}
use Rattle.laws.specs.BoolLaws.{both_left, both_right, bool_cases}
use Rattle.plan.specs.Limits.{max_m, most_n, task_raise, vcpu_raise}
use Rattle.board_rules.specs.Facts.{Facts}
use Rattle.board_rules.specs.declared.Board.{Board}
use Rattle.board_rules.specs.Board.{seat, holder_of, wait_of, holds, local_waiter, holds_global, held_global, held_local, raised_by, task_priority, vcpu_priority}
use Rattle.board_keeps.specs.Fair.{InV, InN, InM}
use Rattle.board_rules.specs.LocalNext.{LocalWait, local_wait}
use Rattle.clock_ties.specs.Ceiled.{Ceiled}

-- task (v, n) holds the local mutex m, and j above n is a local waiter not above the ceiling of m
pub record Raised (F : Facts) (b : Board) (v n m j : ℕ) : Type 0 where
  pub mutex_in : InM m
  pub is_local_law : F.local_to v m ≡ true
  pub held : holder_of b m ≡ seat v n
  pub waiter_in : InN j
  pub waits : LocalWait F b v j
  pub to_ceiling : j ≤ F.ceiling m
  pub above : n < j

-- the priority p of task (v, n) is that of a global holder, its own n, or that of a local waiter
pub data Standing (F : Facts) (b : Board) (v n p : ℕ) : Type 0 where
  of_global : p ≡ task_raise + n → Standing F b v n p
  its_own : p ≡ n → Standing F b v n p
  of_waiter : (m : ℕ) → Raised F b v n m p → Standing F b v n p

-- the greater of n and j is n, or is j above n
max_cases : (P : ℕ → Type 0) (n j : ℕ) → P n → (n < j → P j) → P (max n j)
max_cases P n j own other = at_test (dec_le j n)
  where
    at_test : Dec (j ≤ n) → P (max n j)
    at_test (yes h) = let e : n ≡ max n j = omega arith in subst P e own
    at_test (no h) = let e : j ≡ max n j = omega arith in subst P e (other (omega arith))

module _ (F : Facts) (b : Board) (v n : ℕ) where
  -- a holder of a local mutex that its local waiters raise
  raised_by_law : (m : ℕ) → InM m → F.local_to v m ≡ true → holder_of b m ≡ seat v n → n < raised_by F b v m → Raised F b v n m (raised_by F b v m)
  unfolding raised_by
  raised_by_law m i l e h =
      let raises : ℕ → Bool = λ j. local_waiter F b v j && leb j (F.ceiling m) in
      let j = highest most_n raises in
      let p = highest_passes most_n raises (omega arith) in
      record {
        mutex_in = i;
        is_local_law = l;
        held = e;
        waiter_in = record { from = omega arith; to = highest_le most_n raises };
        waits = local_wait F b v j (both_left (local_waiter F b v j) _ p);
        to_ceiling = leb-true j (F.ceiling m) (both_right (local_waiter F b v j) _ p);
        above = h;
      }

  -- the greatest of n and of the local waiters not above the ceiling of the local mutex that it holds
  holder_standing : 0 < held_local F b v n → Standing F b v n (max n (raised_by F b v (held_local F b v n)))
  unfolding held_local
  holder_standing h =
      let held : ℕ → Bool = λ m. F.local_to v m && holds b v n m in
      let m = highest max_m held in
      let p = highest_passes max_m held h in
      max_cases (Standing F b v n) n (raised_by F b v m) (its_own refl)
      (λ l. of_waiter m (raised_by_law m (record { from = h; to = highest_le max_m held }) (both_left (F.local_to v m) _ p)
      (eqb-true (holder_of b m) (seat v n) (both_right (F.local_to v m) _ p)) l))

  -- a task's priority is one of the three
  pub standing : Standing F b v n (task_priority F b v n)
  unfolding task_priority
  standing =
      ⊎_elim (λ e. rw e (of_global refl))
      (λ e. rw e
      (⊎_elim (λ z. rw (eq-eqb (held_local F b v n) 0 z) (its_own refl))
      (λ h. rw (ne_eqb (held_local F b v n) 0 (λ z. omega arith)) (holder_standing h)) (eq-zero-or-pos (held_local F b v n))))
      (bool_cases (held_global F b v n))

-- THE TASKS OF A VCPU

module _ (F : Facts) (b : Board) (h : Ceiled F b) where
  -- two tasks of a VCPU that wait for nothing do not stand at one priority
  same_standing : (v a c p : ℕ) → InV v → InN a → InN c → wait_of b v a ≡ 0 → wait_of b v c ≡ 0 → (a ≡ c → ⊥) →
      Standing F b v a p → Standing F b v c p → ⊥
  same_standing v a c p i j k wa wc ne (of_global e) (of_global q) = ne (omega arith)
  same_standing v a c p i j k wa wc ne (of_global e) (its_own q) = omega arith
  same_standing v a c p i j k wa wc ne (of_global e) (of_waiter m r) = let l = r.waiter_in.to in omega arith
  same_standing v a c p i j k wa wc ne (its_own e) (of_global q) = omega arith
  same_standing v a c p i j k wa wc ne (its_own e) (its_own q) = ne (omega arith)
  same_standing v a c p i j k wa wc ne (its_own e) (of_waiter m r) = r.waits.some_wait (ap (wait_of b v) e ∙ wa)
  same_standing v a c p i j k wa wc ne (of_waiter m r) (of_global q) = let l = r.waiter_in.to in omega arith
  same_standing v a c p i j k wa wc ne (of_waiter m r) (its_own q) = r.waits.some_wait (ap (wait_of b v) q ∙ wc)
  same_standing v a c p i j k wa wc ne (of_waiter m r) (of_waiter x t) =
      let ra = r.above in
      let rc = r.to_ceiling in
      let ta = t.above in
      let tc = t.to_ceiling in
      ⊎_elim (λ l. omega arith) (λ l. omega arith)
      (h.one_below v m x a c i r.mutex_in t.mutex_in r.is_local_law t.is_local_law j k ne r.held t.held)

  -- two tasks of a VCPU that wait for nothing have different priorities
  pub no_tie : (v a c : ℕ) → InV v → InN a → InN c → wait_of b v a ≡ 0 → wait_of b v c ≡ 0 → (a ≡ c → ⊥) →
      task_priority F b v a ≡ task_priority F b v c → ⊥
  no_tie v a c i j k wa wc ne e =
      same_standing v a c (task_priority F b v a) i j k wa wc ne (standing F b v a) (subst (Standing F b v c) (sym e) (standing F b v c))

-- VCPUS

-- two VCPUs have different priorities
pub no_tie_vcpu : (F : Facts) (b : Board) (v w : ℕ) → InV v → InV w → (v ≡ w → ⊥) → vcpu_priority F b v ≡ vcpu_priority F b w → ⊥
unfolding vcpu_priority
no_tie_vcpu F b v w i j ne = at_tests (holds_global F b v) (holds_global F b w)
  where
    at_tests : (s t : Bool) → (if s then vcpu_raise + v else v) ≡ (if t then vcpu_raise + w else w) → ⊥
    at_tests true true e = ne (omega arith)
    at_tests true false e = omega arith
    at_tests false true e = omega arith
    at_tests false false e = ne e
