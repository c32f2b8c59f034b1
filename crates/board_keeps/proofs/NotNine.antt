-- From a fresh board no event is answered 9.
use Rattle.std.specs.Prelude.{ℕ, ◌≡◌, Bool, true, false, ◌&&◌, not, List, [], ◌∷◌, leb, Ok, Err}
use Rattle.std.proofs.Common.{sym, ap, ◌∙◌, ⊎_elim, arith}
use Rattle.laws.specs.BoolLaws.{bool_cases}
use Rattle.laws.specs.Sums.{Each}
use Rattle.plan.specs.Limits.{max_ticks}
use Rattle.plan.specs.declared.Refusal.{Refusal}
use Rattle.plan.specs.declared.Refusal.TheVariants.{Range, Foreign, Unknown, Unlisted, Asleep, Busy, NotHolder, Supply}
use Rattle.plan.specs.Refusals.{unless, number_of, Fault}
use Rattle.plan.specs.Rules.{within}
use Rattle.board_rules.specs.Facts.{Facts}
use Rattle.board_rules.specs.declared.Board.{Board}
use Rattle.board_rules.specs.declared.Event.{Event}
use Rattle.board_rules.specs.declared.Event.TheVariants.{Ask, Free, Use, Top, Show}
use Rattle.board_rules.specs.declared.BoardAnswer.{BoardAnswer}
use Rattle.board_rules.specs.declared.BoardAnswer.TheVariants.{Refused}
use Rattle.board_rules.specs.declared.Outcome.{Outcome}
use Rattle.board_rules.specs.Board.{fresh, is_asleep, is_busy, holds, supply, may_have, asked, freed, freed_global, freed_local, used, topped, shown, answered, ask_fault, free_fault, use_fault, top_fault, show_fault, step, step_on}
use Rattle.board_events.specs.Events.{answers_by, answers, board_after}
use Rattle.board_keeps.specs.Fair.{Fair}
use Rattle.board_keeps.proofs.Runs.{run_step_on}

-- an answer, and a fault, that is not 9
abbrev pub NotNine : BoardAnswer → Type 0
NotNine a = a ≡ Refused Foreign → ⊥

abbrev OtherFault : Fault → Type 0
OtherFault f = f ≡ Err Foreign → ⊥

clear_other : OtherFault (Ok tt)
clear_other e = let z : ◌≡◌ {A = ℕ} 0 1 = cc in omega arith

unless_other : (t : Bool) (r : Refusal) (f : Fault) → (number_of r ≡ 9 → ⊥) → OtherFault f → OtherFault (unless t r f)
unfolding unless number_of
unless_other true r f h k = k
unless_other false r f h k = λ e. h (let z : r ≡ Foreign = cc in ap number_of z)

ask_other : (F : Facts) (b : Board) (v n m : ℕ) → OtherFault (ask_fault F b v n m)
unfolding ask_fault number_of
ask_other F b v n m =
    unless_other (F.has_task v n && F.has_mutex m) Unknown _ (λ e. omega arith)
    (unless_other (F.lists v n m) Unlisted _ (λ e. omega arith)
    (unless_other (not (is_asleep F b v)) Asleep _ (λ e. omega arith) (unless_other (not (is_busy b v n)) Busy (Ok tt) (λ e. omega arith) clear_other)))

free_other : (F : Facts) (b : Board) (v n m : ℕ) → OtherFault (free_fault F b v n m)
unfolding free_fault number_of
free_other F b v n m =
    unless_other (F.has_task v n && F.has_mutex m) Unknown _ (λ e. omega arith)
    (unless_other (holds b v n m) NotHolder (Ok tt) (λ e. omega arith) clear_other)

use_other : (F : Facts) (b : Board) (v t : ℕ) → OtherFault (use_fault F b v t)
unfolding use_fault number_of
use_other F b v t =
    unless_other (F.has_vcpu v) Unknown _ (λ e. omega arith)
    (unless_other (within t 1 max_ticks) Range _ (λ e. omega arith)
    (unless_other (not (is_asleep F b v)) Asleep _ (λ e. omega arith)
    (unless_other (leb t (supply F b v)) Supply (Ok tt) (λ e. omega arith) clear_other)))

top_other : (F : Facts) (v : ℕ) → OtherFault (top_fault F v)
unfolding top_fault number_of
top_other F v = unless_other (F.has_vcpu v) Unknown (Ok tt) (λ e. omega arith) clear_other

show_other : (F : Facts) (v n : ℕ) → OtherFault (show_fault F v n)
unfolding show_fault number_of
show_other F v n = unless_other (F.has_task v n) Unknown (Ok tt) (λ e. omega arith) clear_other

answered_other : (b : Board) (f : Fault) (o : Outcome) → OtherFault f → NotNine o.answer → NotNine (answered b f o).answer
answered_other b (Ok tt) o h k = k
answered_other b (Err r) o h k = λ e. h (let z : r ≡ Foreign = cc in ap Err z)

-- `step` gives other answers
pub step_not_nine : (F : Facts) (b : Board) (e : Event) → (step F b e).answer ≡ Refused Foreign → ⊥
unfolding step asked freed freed_global freed_local used topped
step_not_nine F b (Ask v n m) =
    answered_other b (ask_fault F b v n m) (asked F b v n m) (ask_other F b v n m)
    (⊎_elim (λ h. rw h (λ e. let z : ◌≡◌ {A = ℕ} 0 1 = cc in omega arith)) (λ h. rw h (λ e. let z : ◌≡◌ {A = ℕ} 0 1 = cc in omega arith)) (bool_cases (may_have F b v n m)))
step_not_nine F b (Free v n m) =
    answered_other b (free_fault F b v n m) (freed F b v m) (free_other F b v n m)
    (⊎_elim (λ h. rw h (λ e. let z : ◌≡◌ {A = ℕ} 0 1 = cc in omega arith)) (λ h. rw h (λ e. let z : ◌≡◌ {A = ℕ} 0 1 = cc in omega arith)) (bool_cases (F.global m)))
step_not_nine F b (Use v t) = answered_other b (use_fault F b v t) (used F b v t) (use_other F b v t) (λ e. let z : ◌≡◌ {A = ℕ} 0 1 = cc in omega arith)
step_not_nine F b (Top v) = answered_other b (top_fault F v) (topped F b v) (top_other F v) (λ e. let z : ◌≡◌ {A = ℕ} 0 1 = cc in omega arith)
step_not_nine F b (Show v n) = answered_other b (show_fault F v n) (shown F b v n) (show_other F v n) (λ e. let z : ◌≡◌ {A = ℕ} 0 1 = cc in omega arith)

-- nor does a run of it
pub answers_not_nine : (F : Facts) (b : Board) (es : List Event) → Each NotNine (answers F b es)
unfolding answers_by
answers_not_nine F b [] = tt
answers_not_nine F b (e ∷ es) = (step_not_nine F b e, answers_not_nine F (step F b e).board es)

pub run_not_nine : {F : Facts} → Fair F → (es : List Event) (e : Event) → (step_on F (board_after F (fresh F) es) e).answer ≡ Refused Foreign → ⊥
run_not_nine {F} f es e q = step_not_nine F (board_after F (fresh F) es) e (sym (ap (λ (o : Outcome). o.answer) (run_step_on f es e)) ∙ q)
