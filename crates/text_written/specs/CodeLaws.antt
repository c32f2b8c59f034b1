-- How code tests that a line's numbers are written, and finds the first that is not, is what the plan says of them.
use Rattle.std.specs.Prelude.{ℕ, ◌≡◌, refl, ltb}
use Rattle.std.proofs.Common.{sym}
use Rattle.std.proofs.Math.Bool.{and-true}
use Rattle.laws.specs.Choice.{when}
use Rattle.plan.specs.declared.Kind.{Kind}
use Rattle.plan.specs.declared.Kind.TheVariants.{PlanLine, PolicyPO, PolicyPN, PolicyDO, PolicyDN, VcpuLine, MutexG, MutexL, OpenLine, GuestLine, TaskLine, RunLine, LockLine, EndLine, AskLine, FreeLine, UseLine, TopLine, ShowLine}
use Rattle.plan.specs.Line.{shape, size, nums_of, written}
use Rattle.plan.specs.Fields.{unwritten}
use Rattle.text_written.specs.Code.{written_by, spot_of, unwritten_by}

-- FOR EACH KIND
abbrev Tested : Kind → Type 0
Tested k =
    (a b c d e : ℕ) →
    (written (shape k) (nums_of k a b c d e) ≡ written_by (size (shape k)) a b c d e)
    × (unwritten (nums_of k a b c d e) ≡ unwritten_by (size (shape k)) a b c d e)

test_kind : (k : Kind) → Tested k
unfolding shape size nums_of when written written_by unwritten spot_of unwritten_by
test_kind k =
    elim k as (λ k. Tested k) [
      | PlanLine ↦ λ a b c d e. (refl, refl)
      | PolicyPO ↦ λ a b c d e. (refl, refl)
      | PolicyPN ↦ λ a b c d e. (refl, refl)
      | PolicyDO ↦ λ a b c d e. (refl, refl)
      | PolicyDN ↦ λ a b c d e. (refl, refl)
      | VcpuLine ↦ λ a b c d e. (simp and-true, refl)
      | MutexG ↦ λ a b c d e. (refl, refl)
      | MutexL ↦ λ a b c d e. (refl, refl)
      | OpenLine ↦ λ a b c d e. (refl, refl)
      | GuestLine ↦ λ a b c d e. (refl, refl)
      | TaskLine ↦ λ a b c d e. (refl, refl)
      | RunLine ↦ λ a b c d e. (refl, refl)
      | LockLine ↦ λ a b c d e. (refl, refl)
      | EndLine ↦ λ a b c d e. (refl, refl)
      | AskLine ↦ λ a b c d e. (refl, refl)
      | FreeLine ↦ λ a b c d e. (refl, refl)
      | UseLine ↦ λ a b c d e. (refl, refl)
      | TopLine ↦ λ a b c d e. (refl, refl)
      | ShowLine ↦ λ a b c d e. (refl, refl)
    ]

pub written_code : (k : Kind) (a b c d e : ℕ) → written (shape k) (nums_of k a b c d e) ≡ written_by (size (shape k)) a b c d e
written_code k a b c d e = (test_kind k a b c d e).0

pub unwritten_code : (k : Kind) (a b c d e : ℕ) → unwritten (nums_of k a b c d e) ≡ unwritten_by (size (shape k)) a b c d e
unwritten_code k a b c d e = (test_kind k a b c d e).1

-- the first number that is not written as it should be, from its tests
pub unwritten_told :
    (k : Kind) (a b c d e : ℕ) {n p q r s t : ℕ} → n ≡ size (shape k) → p ≡ spot_of (ltb 4 n) e 0 → q ≡ spot_of (ltb 3 n) d p → r ≡ spot_of (ltb 2 n) c q →
    s ≡ spot_of (ltb 1 n) b r → t ≡ spot_of (ltb 0 n) a s → t ≡ unwritten (nums_of k a b c d e)
unfolding unwritten_by
unwritten_told k a b c d e n p q r s t = rw (t, s, r, q, p, n) (sym (unwritten_code k a b c d e))
