-- Every event leaves the overruns of the VCPUs that it does not name.
use Rattle.std.specs.Prelude.{ℕ, ◌-◌, ◌≡◌, get_or, Ok, Err}
use Rattle.std.proofs.Math.Path.{refl, ap}
use Rattle.std.proofs.Common.{◌∙◌}
use Rattle.std.proofs.Math.Logic.{⊎_elim}
use Rattle.laws.specs.BoolLaws.{bool_cases}
use Rattle.plan.specs.Refusals.{Fault}
use Rattle.board_rules.specs.Facts.{Facts}
use Rattle.board_rules.specs.declared.Board.{Board}
use Rattle.board_rules.specs.declared.Event.{Event}
use Rattle.board_rules.specs.declared.Event.TheVariants.{Ask, Free, Use, Top, Show}
use Rattle.board_rules.specs.declared.Next.{Next}
use Rattle.board_rules.specs.declared.Next.TheVariants.{Nobody, To}
use Rattle.board_rules.specs.declared.Outcome.{Outcome}
use Rattle.board_rules.specs.Board.{over_of, settled, with_holder, handed_to, granted_local, next_global, next_local, may_have, asked, freed, topped, shown, answered, ask_fault, free_fault, top_fault, show_fault, step}
use Rattle.board_keeps.specs.Fair.{Fair, InV}
use Rattle.board_rules.specs.Change.{over_else}
use Rattle.board_keeps.specs.Faults.{top_clear}
use Rattle.board_keeps.specs.Marks.{own_vcpu}
use Rattle.clock_steps.specs.Taken.{ask_granted, ask_waits, free_global, free_local}
use Rattle.clock_steps.specs.Quiet.{use_over}

-- OVERRUNS

-- a global mutex that is handed on leaves them
handed_over : (b : Board) (m : ℕ) (x : Next) → (handed_to b m x).over ≡ b.over
handed_over b m Nobody = refl
handed_over b m (To v n) = refl

-- and so does a local one
granted_over : (b : Board) (x : Next) → (granted_local b x).over ≡ b.over
granted_over b Nobody = refl
granted_over b (To v n) = refl

-- `ask`, `free` and `show` leave them all
module _ (F : Facts) (b : Board) where
  -- `ask`, whatever is answered
  ask_over : (v n m : ℕ) → (step F b (Ask v n m)).board.over ≡ b.over
  unfolding settled
  ask_over v n m = at_fault (ask_fault F b v n m) refl
    where
      at_fault : (x : Fault) → ask_fault F b v n m ≡ x → (step F b (Ask v n m)).board.over ≡ b.over
      at_fault (Ok tt) e =
          ⊎_elim (λ h. ap (λ (o : Outcome). o.board.over) (ask_granted F b v n m e h)) (λ h. ap (λ (o : Outcome). o.board.over) (ask_waits F b v n m e h)) (bool_cases (may_have F b v n m))
      at_fault (Err r) e = unfold step in ap (λ x. (answered b x (asked F b v n m)).board.over) e

  -- `free`, whoever is next
  free_over : (v n m : ℕ) → (step F b (Free v n m)).board.over ≡ b.over
  unfolding settled
  free_over v n m = at_fault (free_fault F b v n m) refl
    where
      at_fault : (x : Fault) → free_fault F b v n m ≡ x → (step F b (Free v n m)).board.over ≡ b.over
      at_fault (Ok tt) e =
          ⊎_elim (λ h. ap (λ (o : Outcome). o.board.over) (free_global F b v n m e h) ∙ handed_over b m (next_global b m))
          (λ h. ap (λ (o : Outcome). o.board.over) (free_local F b v n m e h) ∙ granted_over (with_holder b m 0) (next_local F (with_holder b m 0) v)) (bool_cases (F.global m))
      at_fault (Err r) e = unfold step in ap (λ x. (answered b x (freed F b v m)).board.over) e

  -- `show`, which only reads
  show_over : (v n : ℕ) → (step F b (Show v n)).board.over ≡ b.over
  unfolding step
  show_over v n = at_fault (show_fault F v n)
    where
      at_fault : (x : Fault) → (answered b x (shown F b v n)).board.over ≡ b.over
      at_fault (Ok tt) = refl
      at_fault (Err r) = refl

-- `top v` leaves those of the other VCPUs
top_over : {F : Facts} (f : Fair F) (b : Board) (v w : ℕ) → InV w → (w ≡ v → ⊥) → over_of (step F b (Top v)).board w ≡ over_of b w
unfolding step topped settled
top_over {F} f b v w j ne = at_fault (top_fault F v) refl
  where
    at_fault : (x : Fault) → top_fault F v ≡ x → over_of (answered b x (topped F b v)).board w ≡ over_of b w
    at_fault (Ok tt) e = over_else b v (F.budget v) (F.overrun v) w (f.vcpu_in v (top_clear F v e)) j ne
    at_fault (Err r) e = refl

-- so every event leaves those of the VCPUs that it does not name
pub step_over : {F : Facts} (f : Fair F) (b : Board) (e : Event) (w : ℕ) → InV w → (w ≡ own_vcpu e → ⊥) → over_of (step F b e).board w ≡ over_of b w
step_over {F} f b (Ask v n m) w j ne = ap (λ x. get_or x (w - 1) 0) (ask_over F b v n m)
step_over {F} f b (Free v n m) w j ne = ap (λ x. get_or x (w - 1) 0) (free_over F b v n m)
step_over f b (Use v t) w j ne = use_over f b v t w j ne
step_over f b (Top v) w j ne = top_over f b v w j ne
step_over {F} f b (Show v n) w j ne = ap (λ x. get_or x (w - 1) 0) (show_over F b v n)
