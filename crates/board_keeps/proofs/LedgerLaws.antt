-- From a fresh board the ticks accepted for a VCPU since its last `top` are what its budget and overrun lack.
use Rattle.std.specs.Prelude.{ℕ, ◌+◌, ◌-◌, ◌≤◌, ◌≡◌, Bool, true, false, ◌&&◌, List, [], ◌∷◌, Ok, Err}
use Rattle.std.proofs.Math.Path.{refl}
use Rattle.std.proofs.Common.{sym, subst, arith, le_trans, eq-eqb, ne_eqb}
use Rattle.std.proofs.Math.Logic.{⊎_elim}
use Rattle.std.proofs.Math.Dec.{eqb}
use Rattle.std.specs.Prelude.{if◌then◌else◌}
use Rattle.laws.specs.BoolLaws.{bool_cases, same_or_not}
use Rattle.plan.specs.declared.OverrunChoice.{OverrunChoice}
use Rattle.plan.specs.declared.OverrunChoice.TheVariants.{WithOverrun, WithoutOverrun}
use Rattle.plan.specs.Refusals.{Fault}
use Rattle.board_rules.specs.Facts.{Facts}
use Rattle.board_rules.specs.declared.Board.{Board}
use Rattle.board_rules.specs.declared.Event.{Event}
use Rattle.board_rules.specs.declared.Event.TheVariants.{Ask, Free, Use, Top, Show}
use Rattle.board_rules.specs.declared.Next.{Next}
use Rattle.board_rules.specs.declared.Next.TheVariants.{Nobody, To}
use Rattle.board_rules.specs.Board.{left_of, over_of, is_stopped, holds_global, reserve, supply, settled, with_left, with_holder, handed_to, granted_local, next_global, next_local, fresh, may_have, asked, freed, freed_global, freed_local, used, topped, shown, answered, ask_fault, free_fault, use_fault, top_fault, show_fault, step}
use Rattle.board_events.specs.Events.{answers, board_after, answers_by, board_by}
use Rattle.board_rules.specs.Change.{left_else, over_else}
use Rattle.board_rules.proofs.Marked.{fresh_left}
use Rattle.board_keeps.specs.Fair.{Fair, InV}
use Rattle.board_keeps.specs.Shaped.{Shaped, fresh_shaped, step_shaped}
use Rattle.board_keeps.specs.Change.{left_new, over_new}
use Rattle.board_keeps.specs.Faults.{use_clear, top_clear}
use Rattle.board_keeps.proofs.Runs.{fresh_over}
use Rattle.board_keeps.specs.Ledger.{accepted, entered, ledger}

-- supply is at most what is left of budget and overrun
reserve_le : (c : OverrunChoice) (h s : Bool) (o : ℕ) → reserve c h s o ≤ o
reserve_le WithOverrun true true o = omega arith
reserve_le WithOverrun true false o = omega arith
reserve_le WithOverrun false s o = omega arith
reserve_le WithoutOverrun h s o = omega arith

pub supply_le : (F : Facts) (b : Board) (v : ℕ) → supply F b v ≤ left_of b v + over_of b v
unfolding supply
supply_le F b v = omega (arith, reserve_le F.choice (holds_global F b v) (is_stopped b v) (over_of b v))

-- t ticks, and what is left, make up v's budget and overrun
abbrev pub Balanced : Facts → Board → ℕ → ℕ → Type 0
Balanced F b v t = t + left_of b v + over_of b v ≡ F.budget v + F.overrun v

-- u ticks are taken from w
abbrev after_use : Board → ℕ → ℕ → Board
after_use b w u = with_left b w (left_of b w - u) (over_of b w - (u - left_of b w))

module _ {F : Facts} {b : Board} (f : Fair F) (s : Shaped b) (v t : ℕ) (i : InV v) (h : Balanced F b v t) where
  handed_balance : (m : ℕ) (w : Next) → Balanced F (handed_to b m w) v t
  handed_balance m Nobody = h
  handed_balance m (To x n) = h

  granted_balance : (m : ℕ) (w : Next) → Balanced F (granted_local (with_holder b m 0) w) v t
  granted_balance m Nobody = h
  granted_balance m (To x n) = h

  own_use : (u : ℕ) → u ≤ left_of b v + over_of b v → Balanced F (after_use b v u) v (if eqb v v then t + u else t)
  own_use u e =
      rw (eq-eqb v v refl)
      (rw (left_new s v (left_of b v - u) (over_of b v - (u - left_of b v)) i, over_new s v (left_of b v - u) (over_of b v - (u - left_of b v)) i) (omega arith))

  use_balance : (w u : ℕ) → InV w → u ≤ left_of b w + over_of b w → Balanced F (after_use b w u) v (if eqb w v then t + u else t)
  use_balance w u j =
      ⊎_elim
      (λ e. subst (λ x. u ≤ left_of b x + over_of b x → Balanced F (after_use b x u) v (if eqb x v then t + u else t)) (sym e) (own_use u))
      (λ ne l. rw (ne_eqb w v ne)
      (rw (left_else b w (left_of b w - u) (over_of b w - (u - left_of b w)) v j i (λ q. ne (sym q)), over_else b w (left_of b w - u) (over_of b w - (u - left_of b w)) v j i (λ q. ne (sym q))) h))
      (same_or_not w v)

  top_balance : (w : ℕ) → InV w → Balanced F (with_left b w (F.budget w) (F.overrun w)) v (if eqb w v then 0 else t)
  top_balance w j =
      ⊎_elim
      (λ e. rw e (rw (eq-eqb v v refl) (rw (left_new s v (F.budget v) (F.overrun v) i, over_new s v (F.budget v) (F.overrun v) i) (omega arith))))
      (λ ne. rw (ne_eqb w v ne)
      (rw (left_else b w (F.budget w) (F.overrun w) v j i (λ q. ne (sym q)), over_else b w (F.budget w) (F.overrun w) v j i (λ q. ne (sym q))) h))
      (same_or_not w v)

  pub step_balance : (e : Event) → Balanced F (step F b e).board v (entered v t e (step F b e).answer)
  unfolding step asked freed freed_global freed_local used topped settled entered
  step_balance (Ask w n m) = at_fault (ask_fault F b w n m)
    where
      at_fault : (x : Fault) → Balanced F (answered b x (asked F b w n m)).board v t
      at_fault (Ok tt) = ⊎_elim (λ e. rw e h) (λ e. rw e h) (bool_cases (may_have F b w n m))
      at_fault (Err r) = h
  step_balance (Free w n m) = at_fault (free_fault F b w n m)
    where
      at_fault : (x : Fault) → Balanced F (answered b x (freed F b w m)).board v t
      at_fault (Ok tt) = ⊎_elim (λ e. rw e (handed_balance m (next_global b m))) (λ e. rw e (granted_balance m (next_local F (with_holder b m 0) w))) (bool_cases (F.global m))
      at_fault (Err r) = h
  step_balance (Use w u) = at_fault (use_fault F b w u) refl
    where
      at_fault : (x : Fault) → use_fault F b w u ≡ x → Balanced F (answered b x (used F b w u)).board v (if accepted (answered b x (used F b w u)).answer && eqb w v then t + u else t)
      at_fault (Ok tt) e = let c = use_clear F b w u e in use_balance w u (f.vcpu_in w c.vcpu) (le_trans c.enough (supply_le F b w))
      at_fault (Err r) e = h
  step_balance (Top w) = at_fault (top_fault F w) refl
    where
      at_fault : (x : Fault) → top_fault F w ≡ x → Balanced F (answered b x (topped F b w)).board v (if accepted (answered b x (topped F b w)).answer && eqb w v then 0 else t)
      at_fault (Ok tt) e = top_balance w (f.vcpu_in w (top_clear F w e))
      at_fault (Err r) e = h
  step_balance (Show w n) = at_fault (show_fault F w n)
    where
      at_fault : (x : Fault) → Balanced F (answered b x (shown F b w n)).board v t
      at_fault (Ok tt) = h
      at_fault (Err r) = h

-- at every board of a run: the ticks, and what is left
after_balance : {F : Facts} {b : Board} (f : Fair F) → Shaped b → (v t : ℕ) → InV v → Balanced F b v t → (es : List Event) →
    Balanced F (board_after F b es) v (ledger v t es (answers F b es))
unfolding board_by answers_by ledger
after_balance f s v t i h [] = h
after_balance {F} {b} f s v t i h (e ∷ es) =
    after_balance {b = (step F b e).board} f (step_shaped F e s) v (entered v t e (step F b e).answer) i (step_balance f s v t i h e) es

pub ledger_balance : {F : Facts} → Fair F → (v : ℕ) → F.has_vcpu v ≡ true → (es : List Event) →
    ledger v 0 es (answers F (fresh F) es) + left_of (board_after F (fresh F) es) v + over_of (board_after F (fresh F) es) v ≡ F.budget v + F.overrun v
ledger_balance {F} f v e es =
    let i = f.vcpu_in v e in
    after_balance f (fresh_shaped F) v 0 i (omega (arith, fresh_left F v i, fresh_over F v i)) es
