-- `use` and `top` leave all locks: who holds, and who waits.
use Rattle.std.specs.Prelude.{ℕ, ◌-◌, ◌≡◌, ◌&&◌, eqb, get_or, Ok, Err}
use Rattle.std.proofs.Math.Path.{refl}
use Rattle.std.proofs.Common.{sym, ap, subst, ◌∙◌}
use Rattle.laws.specs.Range.{any_to}
use Rattle.plan.specs.Limits.{max_m, most_n}
use Rattle.plan.specs.Refusals.{Fault}
use Rattle.board_rules.specs.Facts.{Facts}
use Rattle.board_rules.specs.declared.Board.{Board}
use Rattle.board_rules.specs.declared.Event.TheVariants.{Use, Top}
use Rattle.board_rules.specs.Board.{seat, left_of, over_of, holder_of, wait_of, holds_global, settled, used, topped, answered, use_fault, top_fault, step}
use Rattle.board_keeps.specs.Fair.{Fair, InV}
use Rattle.board_rules.specs.Change.{left_else, over_else}
use Rattle.board_keeps.specs.Faults.{use_clear}
use Rattle.clock_rules.specs.Clock.{Timing}
use Rattle.clock_steps.specs.InStep.{InStep}

-- b and b' have the same locks
pub record SameLocks (b b' : Board) : Type 0 where
  pub holder_same : b'.holder ≡ b.holder
  pub waits_same : b'.waits ≡ b.waits

-- a board has its own locks
pub locks_stay : {b : Board} → SameLocks b b
locks_stay = record { holder_same = refl; waits_same = refl }

-- and the same as one later on, if nothing changes them in between
pub locks_then : {a b c : Board} → SameLocks a b → SameLocks b c → SameLocks a c
locks_then s t = record { holder_same = t.holder_same ∙ s.holder_same; waits_same = t.waits_same ∙ s.waits_same }

-- boards with the same locks are in step together
pub same_in_step : {T : Timing} {b b' : Board} {D : ℕ → ℕ → ℕ} → SameLocks b b' → InStep T (holder_of b) (wait_of b) D → InStep T (holder_of b') (wait_of b') D
same_in_step {T} {b} {b'} {D} s g =
    subst (λ hs. InStep T (λ m. get_or hs (m - 1) 0) (wait_of b') D) (sym s.holder_same)
    (subst (λ ws. InStep T (holder_of b) (λ v n. get_or ws (seat v n - 1) 0) D) (sym s.waits_same) g)

-- and their VCPUs hold global mutexes alike
pub same_global : (F : Facts) {b b' : Board} (v : ℕ) → SameLocks b b' → holds_global F b' v ≡ holds_global F b v
unfolding holds_global
same_global F v s = ap (λ hs. any_to max_m (λ m. F.global m && any_to most_n (λ n. eqb (get_or hs (m - 1) 0) (seat v n)))) s.holder_same

module _ (F : Facts) (b : Board) where
  -- `use v t`, whatever is answered
  pub use_locks : (v t : ℕ) → SameLocks b (step F b (Use v t)).board
  unfolding step used settled
  use_locks v t = at_fault (use_fault F b v t)
    where
      at_fault : (x : Fault) → SameLocks b (answered b x (used F b v t)).board
      at_fault (Ok tt) = record { holder_same = refl; waits_same = refl }
      at_fault (Err r) = record { holder_same = refl; waits_same = refl }

  -- `top v`, whatever is answered
  pub top_locks : (v : ℕ) → SameLocks b (step F b (Top v)).board
  unfolding step topped settled
  top_locks v = at_fault (top_fault F v)
    where
      at_fault : (x : Fault) → SameLocks b (answered b x (topped F b v)).board
      at_fault (Ok tt) = record { holder_same = refl; waits_same = refl }
      at_fault (Err r) = record { holder_same = refl; waits_same = refl }

-- `use v t` leaves the budget and the overrun of every other VCPU
module _ {F : Facts} (f : Fair F) (b : Board) (v t w : ℕ) (j : InV w) (ne : w ≡ v → ⊥) where
  -- of its budget, b
  pub use_left : left_of (step F b (Use v t)).board w ≡ left_of b w
  unfolding step used settled
  use_left = at_fault (use_fault F b v t) refl
    where
      at_fault : (x : Fault) → use_fault F b v t ≡ x → left_of (answered b x (used F b v t)).board w ≡ left_of b w
      at_fault (Ok tt) e = left_else b v (left_of b v - t) (over_of b v - (t - left_of b v)) w (f.vcpu_in v (use_clear F b v t e).vcpu) j ne
      at_fault (Err r) e = refl

  -- of its overrun, o
  pub use_over : over_of (step F b (Use v t)).board w ≡ over_of b w
  unfolding step used settled
  use_over = at_fault (use_fault F b v t) refl
    where
      at_fault : (x : Fault) → use_fault F b v t ≡ x → over_of (answered b x (used F b v t)).board w ≡ over_of b w
      at_fault (Ok tt) e = over_else b v (left_of b v - t) (over_of b v - (t - left_of b v)) w (f.vcpu_in v (use_clear F b v t e).vcpu) j ne
      at_fault (Err r) e = refl
