-- The field of a refused item, from its parts.
use Prim.Native.Nat.{ℕ}
use mathlib.Core.Path.{◌≡◌, refl, ap, ◌∙◌}
use mathlib.Core.Bool.{Bool}
use lib.Dec.{eqb}
use lib.ListN.{get_or}
use Rattle.plan.specs.declared.Kind.{Kind}
use Rattle.plan.specs.declared.Kind.TheVariants.{PlanLine, PolicyPO, PolicyPN, PolicyDO, PolicyDN, VcpuLine, MutexG, MutexL, OpenLine, GuestLine, TaskLine, RunLine, LockLine, EndLine, AskLine, FreeLine, UseLine, TopLine, ShowLine}
use Rattle.plan.specs.declared.Refusal.{Refusal}
use Rattle.plan.specs.Line.{head_or, shape, size, nums_of}
use Rattle.plan.specs.Fields.{missing}
use Rattle.judge_coded.specs.declared.Seen.{Seen}
use Rattle.judge_coded.specs.Coded.{global}

-- Missing: the mutex of `open` is its first number
abbrev Firsts : ℕ → ℕ → ℕ → ℕ → ℕ → Seen → Kind → Type 0
Firsts a b c d e t k = missing (eqb (get_or t.owners a 0) global) k ≡ missing (eqb (get_or t.owners (head_or (nums_of k a b c d e)) 0) global) k

pub missing_first : (t : Seen) (k : Kind) (a b c d e : ℕ) → Firsts a b c d e t k
unfolding nums_of size shape
missing_first t k a b c d e =
    elim k as (λ k. Firsts a b c d e t k) [
      | PlanLine ↦ refl
      | PolicyPO ↦ refl
      | PolicyPN ↦ refl
      | PolicyDO ↦ refl
      | PolicyDN ↦ refl
      | VcpuLine ↦ refl
      | MutexG ↦ refl
      | MutexL ↦ refl
      | OpenLine ↦ refl
      | GuestLine ↦ refl
      | TaskLine ↦ refl
      | RunLine ↦ refl
      | LockLine ↦ refl
      | EndLine ↦ refl
      | AskLine ↦ refl
      | FreeLine ↦ refl
      | UseLine ↦ refl
      | TopLine ↦ refl
      | ShowLine ↦ refl
    ]

pub missing_told :
    (t : Seen) (k : Kind) (a b c d e : ℕ) {g : Bool} {r : ℕ} → g ≡ eqb (get_or t.owners a 0) global → r ≡ missing g k →
    r ≡ missing (eqb (get_or t.owners (head_or (nums_of k a b c d e)) 0) global) k
missing_told t k a b c d e g h = h ∙ ap (λ x. missing x k) g ∙ missing_first t k a b c d e

-- what holds at a known refusal
pub by_refusal : (f : Refusal → ℕ) {x y : Refusal} {r : ℕ} → x ≡ y → r ≡ f y → r ≡ f x
by_refusal f g h = rw g h
