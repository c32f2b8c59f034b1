-- A freed global mutex goes to the waiter with the highest VCPU, then the highest n; it is free only if nobody waited.
use Rattle.std.specs.Prelude.{ℕ, ◌≡◌, refl, true, Ok, Err}
use Rattle.std.proofs.Math.Path.{ap}
use Rattle.std.proofs.Common.{subst, ◌∙◌, arith}
use Rattle.plan.specs.Refusals.{Fault}
use Rattle.board_rules.specs.Facts.{Facts}
use Rattle.board_rules.specs.declared.Board.{Board}
use Rattle.board_rules.specs.declared.Event.TheVariants.{Free}
use Rattle.board_rules.specs.declared.Next.{Next}
use Rattle.board_rules.specs.declared.Next.TheVariants.{Nobody, To}
use Rattle.board_rules.specs.declared.BoardAnswer.TheVariants.{Freed}
use Rattle.board_rules.specs.Board.{seat, holder_of, wait_of, next_global, settled, handed_to, free_fault, freed, freed_global, answered, step}
use Rattle.board_keeps.specs.Fair.{Fair, InV, InN}
use Rattle.board_keeps.specs.Shaped.{Shaped, holder_shaped}
use Rattle.board_keeps.specs.Change.{holder_new, wait_new}
use Rattle.board_keeps.specs.Faults.{FreeClear, free_clear}
use Rattle.board_keeps.specs.Nexts.{HighestWaiter, GlobalNext, none_waits, top_waiter}
use Rattle.board_keeps.proofs.NextLaws.{global_next}

read_next : {b : Board} {m : ℕ} {x : Next} → GlobalNext b m x → (w k : ℕ) → x ≡ To w k → HighestWaiter b m w k
read_next (none_waits h) w k e = absurd (let z : ◌≡◌ {A = ℕ} 0 1 = cc in omega arith)
read_next {b} {m} (top_waiter w₁ k₁ h) w k e =
    let ew : w₁ ≡ w = cc in
    let ek : k₁ ≡ k = cc in
    subst (λ a. HighestWaiter b m w a) ek (subst (λ a. HighestWaiter b m a k₁) ew h)

read_none : {b : Board} {m : ℕ} {x : Next} → GlobalNext b m x → x ≡ Nobody → (v n : ℕ) → InV v → InN n → wait_of b v n ≡ m → ⊥
read_none (none_waits h) e = h
read_none (top_waiter w k h) e = absurd (let z : ◌≡◌ {A = ℕ} 0 1 = cc in omega arith)

-- `free` of a global mutex, where it is not refused
record FreedTo (F : Facts) (b : Board) (v n m : ℕ) (x : Next) : Type 0 where
  clear : FreeClear F b v n m
  next : next_global b m ≡ x
  board : (step F b (Free v n m)).board ≡ settled F (handed_to b m x)

freed_to : (F : Facts) (b : Board) (v n m : ℕ) (x : Next) → F.global m ≡ true → (step F b (Free v n m)).answer ≡ Freed x → FreedTo F b v n m x
unfolding step freed freed_global
freed_to F b v n m x e a = record { clear = free_clear F b v n m is_clear_law; next = is_next; board = rw (is_clear_law, e, is_next) }
  where
    at_fault : (r : Fault) → (answered b r (freed F b v m)).answer ≡ Freed x → r ≡ Ok tt
    at_fault (Ok tt) a = refl
    at_fault (Err r) a = absurd (let z : ◌≡◌ {A = ℕ} 0 1 = cc in omega arith)

    is_clear_law : free_fault F b v n m ≡ Ok tt
    is_clear_law = at_fault (free_fault F b v n m) a

    is_next : next_global b m ≡ x
    is_next = let c : Freed (next_global b m) ≡ Freed x = (rw (is_clear_law, e) at a) in cc

module _ (F : Facts) (b : Board) (v n m : ℕ) (e : F.global m ≡ true) where
  pub hand_on : (w k : ℕ) → (step F b (Free v n m)).answer ≡ Freed (To w k) → HighestWaiter b m w k
  hand_on w k a = read_next (global_next b m) w k (freed_to F b v n m (To w k) e a).next

  pub hand_to_nobody : (step F b (Free v n m)).answer ≡ Freed Nobody → (x j : ℕ) → InV x → InN j → wait_of b x j ≡ m → ⊥
  hand_to_nobody a = read_none (global_next b m) (freed_to F b v n m Nobody e a).next

  -- the next holder holds m and waits no more; with nobody to hand it to, m is free
  pub hand_taken : Fair F → Shaped b → (w k : ℕ) → (step F b (Free v n m)).answer ≡ Freed (To w k) →
      (holder_of (step F b (Free v n m)).board m ≡ seat w k) × (wait_of (step F b (Free v n m)).board w k ≡ 0)
  unfolding settled
  hand_taken f s w k a =
      let r = freed_to F b v n m (To w k) e a in
      let q = hand_on w k a in (
        ap (λ x. holder_of x m) r.board ∙ holder_new s m (seat w k) (f.mutex_in m r.clear.mutex),
        ap (λ x. wait_of x w k) r.board ∙ wait_new (holder_shaped m (seat w k) s) w k 0 q.v_in q.n_in,
      )

  pub hand_freed : Fair F → Shaped b → (step F b (Free v n m)).answer ≡ Freed Nobody → holder_of (step F b (Free v n m)).board m ≡ 0
  unfolding settled
  hand_freed f s a =
      let r = freed_to F b v n m Nobody e a in ap (λ x. holder_of x m) r.board ∙ holder_new s m 0 (f.mutex_in m r.clear.mutex)
