-- A refused event leaves the board as it was.
use Rattle.std.specs.Prelude.{ℕ, ◌≡◌, refl, Ok, Err}
use Rattle.std.proofs.Common.{⊎_elim, arith}
use Rattle.laws.specs.BoolLaws.{bool_cases}
use Rattle.plan.specs.declared.Refusal.{Refusal}
use Rattle.plan.specs.Refusals.{Fault}
use Rattle.board_rules.specs.Facts.{Facts}
use Rattle.board_rules.specs.declared.Board.{Board}
use Rattle.board_rules.specs.declared.Event.{Event}
use Rattle.board_rules.specs.declared.Event.TheVariants.{Ask, Free, Use, Top, Show}
use Rattle.board_rules.specs.declared.BoardAnswer.{BoardAnswer}
use Rattle.board_rules.specs.declared.BoardAnswer.TheVariants.{Refused}
use Rattle.board_rules.specs.declared.Outcome.{Outcome}
use Rattle.board_rules.specs.Board.{step, answered, may_have, asked, freed, freed_global, freed_local, used, topped, shown, ask_fault, free_fault, use_fault, top_fault, show_fault}

-- an outcome that is refused has the board b
abbrev pub Leaves : Board → Outcome → Type 0
Leaves b o = (x : Refusal) → o.answer ≡ Refused x → o.board ≡ b

-- an answer that is no refusal
abbrev Told : BoardAnswer → Type 0
Told a = (x : Refusal) → a ≡ Refused x → ⊥

answered_leaves : (b : Board) (f : Fault) (o : Outcome) → Told o.answer → Leaves b (answered b f o)
answered_leaves b (Ok tt) o h x e = absurd (h x e)
answered_leaves b (Err r) o h x e = refl

-- a refused event leaves the board as it was
pub step_leaves : (F : Facts) (b : Board) (e : Event) → Leaves b (step F b e)
unfolding step asked freed freed_global freed_local used topped
step_leaves F b (Ask v n m) =
    answered_leaves b (ask_fault F b v n m) (asked F b v n m)
    (⊎_elim (λ h. rw h (λ x e. let z : ◌≡◌ {A = ℕ} 0 1 = cc in omega arith)) (λ h. rw h (λ x e. let z : ◌≡◌ {A = ℕ} 0 1 = cc in omega arith)) (bool_cases (may_have F b v n m)))
step_leaves F b (Free v n m) =
    answered_leaves b (free_fault F b v n m) (freed F b v m)
    (⊎_elim (λ h. rw h (λ x e. let z : ◌≡◌ {A = ℕ} 0 1 = cc in omega arith)) (λ h. rw h (λ x e. let z : ◌≡◌ {A = ℕ} 0 1 = cc in omega arith)) (bool_cases (F.global m)))
step_leaves F b (Use v t) = answered_leaves b (use_fault F b v t) (used F b v t) (λ x e. let z : ◌≡◌ {A = ℕ} 0 1 = cc in omega arith)
step_leaves F b (Top v) = answered_leaves b (top_fault F v) (topped F b v) (λ x e. let z : ◌≡◌ {A = ℕ} 0 1 = cc in omega arith)
step_leaves F b (Show v n) = answered_leaves b (show_fault F v n) (shown F b v n) (λ x e. let z : ◌≡◌ {A = ℕ} 0 1 = cc in omega arith)
