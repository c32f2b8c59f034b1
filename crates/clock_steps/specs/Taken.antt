-- When an event is not refused, and what it then does.
use Rattle.std.specs.Prelude.{ℕ, ◌≤◌, ◌≡◌, refl, Bool, true, eqb, Ok}
use Rattle.std.proofs.Math.Path.{ap}
use Rattle.std.proofs.Common.{◌∙◌}
use Rattle.std.proofs.Math.Bool.{false, not}
use native.Mathlib.Omega.{arith}
use borrow.Author.Tests.{eqb-false, eq-eqb, ne_eqb, le-leb}
use Rattle.std.specs.Prelude.{if◌then◌else◌}
use Rattle.laws.specs.Range.{any_to}
use Rattle.laws.specs.RangeLaws.{none_of}
use Rattle.laws.specs.BoolLaws.{both, neither}
use Rattle.plan.specs.Limits.{max_m}
use Rattle.plan.specs.JudgeLaws.{unless_clear}
use Rattle.board_rules.specs.Facts.{Facts}
use Rattle.board_rules.specs.declared.Board.{Board}
use Rattle.board_rules.specs.declared.Event.TheVariants.{Ask, Free, Use, Top}
use Rattle.board_rules.specs.declared.BoardAnswer.TheVariants.{Granted, Waits, Freed}
use Rattle.board_rules.specs.Board.{seat, holder_of, wait_of, holds, is_asleep, supply, is_busy, with_holder, with_wait, may_have, asked, freed, freed_global, freed_local, used, topped, next_global, next_local, handed_to, granted_local, complete, answered, ask_fault, free_fault, use_fault, top_fault, step}
use Rattle.board_keeps.specs.Fair.{InM}

module _ (F : Facts) (b : Board) where
  -- `ask v n m` of a task of the plan for a mutex on its sheet, awake, which holds none and waits for none
  pub ask_taken : (v n m : ℕ) → F.has_task v n ≡ true → F.has_mutex m ≡ true → F.lists v n m ≡ true → is_asleep F b v ≡ false → wait_of b v n ≡ 0 →
      ((k : ℕ) → InM k → holder_of b k ≡ seat v n → ⊥) → ask_fault F b v n m ≡ Ok tt
  unfolding ask_fault is_busy
  ask_taken v n m t x l a w h =
      (unless_clear _ _ _).1 (both (F.has_task v n) _ t x, (unless_clear _ _ _).1 (l, (unless_clear _ _ _).1 (ap not a, (unless_clear _ _ _).1 (ap not idle, refl))))
    where
      idle : is_busy b v n ≡ false
      idle =
          neither (not (eqb (wait_of b v n) 0)) (any_to max_m (λ k. holds b v n k)) (ap not (eq-eqb (wait_of b v n) 0 w))
          (none_of max_m (λ k. holds b v n k) (λ k p q. ne_eqb (holder_of b k) (seat v n) (h k (record { from = p; to = q }))))

  -- where the task may have m, it holds m
  pub ask_granted : (v n m : ℕ) → ask_fault F b v n m ≡ Ok tt → may_have F b v n m ≡ true → step F b (Ask v n m) ≡ complete F Granted (with_holder b m (seat v n))
  unfolding step asked
  ask_granted v n m e h = ap (λ x. answered b x (asked F b v n m)) e ∙ ap (λ (t : Bool). if t then complete F Granted (with_holder b m (seat v n)) else complete F Waits (with_wait b v n m)) h

  -- where not, it waits for m
  pub ask_waits : (v n m : ℕ) → ask_fault F b v n m ≡ Ok tt → may_have F b v n m ≡ false → step F b (Ask v n m) ≡ complete F Waits (with_wait b v n m)
  unfolding step asked
  ask_waits v n m e h = ap (λ x. answered b x (asked F b v n m)) e ∙ ap (λ (t : Bool). if t then complete F Granted (with_holder b m (seat v n)) else complete F Waits (with_wait b v n m)) h

  -- `free v n m` of a task of the plan that holds m
  pub free_taken : (v n m : ℕ) → F.has_task v n ≡ true → F.has_mutex m ≡ true → holder_of b m ≡ seat v n → free_fault F b v n m ≡ Ok tt
  unfolding free_fault
  free_taken v n m t x h =
      (unless_clear _ _ _).1 (both (F.has_task v n) _ t x, (unless_clear _ _ _).1 (eq-eqb (holder_of b m) (seat v n) h, refl))

  -- a global mutex goes to the next holder
  pub free_global : (v n m : ℕ) → free_fault F b v n m ≡ Ok tt → F.global m ≡ true → step F b (Free v n m) ≡ complete F (Freed (next_global b m)) (handed_to b m (next_global b m))
  unfolding step freed freed_global
  free_global v n m e h = ap (λ x. answered b x (freed F b v m)) e ∙ ap (λ (t : Bool). if t then freed_global F b m else freed_local F b v m) h

  -- after a local one the next local waiter may have its own
  pub free_local : (v n m : ℕ) → free_fault F b v n m ≡ Ok tt → F.global m ≡ false →
      step F b (Free v n m) ≡ complete F (Freed (next_local F (with_holder b m 0) v)) (granted_local (with_holder b m 0) (next_local F (with_holder b m 0) v))
  unfolding step freed freed_local
  free_local v n m e h = ap (λ x. answered b x (freed F b v m)) e ∙ ap (λ (t : Bool). if t then freed_global F b m else freed_local F b v m) h

  -- `use v 1` of a VCPU of the plan that is awake
  pub use_taken : (v : ℕ) → F.has_vcpu v ≡ true → is_asleep F b v ≡ false → use_fault F b v 1 ≡ Ok tt
  unfolding use_fault
  use_taken v t a =
      (unless_clear _ _ _).1 (t, (unless_clear _ _ _).1 (refl, (unless_clear _ _ _).1 (ap not a, (unless_clear _ _ _).1 (le-leb 1 (supply F b v) enough, refl))))
    where
      enough : 1 ≤ supply F b v
      enough = let nz : supply F b v ≡ 0 → ⊥ = eqb-false (supply F b v) 0 a in omega arith

  -- `use v t` in order takes its ticks
  pub use_is : (v t : ℕ) → use_fault F b v t ≡ Ok tt → step F b (Use v t) ≡ used F b v t
  unfolding step
  use_is v t e = ap (λ x. answered b x (used F b v t)) e

  -- `top v` of a VCPU of the plan
  pub top_is : (v : ℕ) → F.has_vcpu v ≡ true → step F b (Top v) ≡ topped F b v
  unfolding step top_fault
  top_is v t = ap (λ x. answered b x (topped F b v)) ((unless_clear _ _ _).1 (t, refl))
