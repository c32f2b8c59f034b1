-- Laws of the search for a VCPU's guest: none of the rows so far has it, this row has it, no row has it; and whether a task begins a section.
use Prim.Native.Nat.{ℕ, zero, suc, ◌+◌, ◌-◌, ◌≤◌, ◌<◌}
use Rattle.std.specs.Prelude.{◌≡◌, List, [], Bool, true, ◌&&◌, ◌||◌, not, eqb, leb}
use Rattle.std.proofs.Math.Path.{refl, sym}
use Rattle.std.proofs.Common.{ap, ◌∙◌, add-one, eqb-true, eq-eqb, ne_eqb}
use Rattle.std.proofs.lemmas.Bool.{false≢true}
use native.Mathlib.Omega.{arith}
use Rattle.laws.specs.BoolLaws.{both_right}
use Rattle.laws.specs.SumLaws.{first_none}
use Rattle.laws.specs.Rows.{rows, Lacking}
use Rattle.laws.specs.FirstLaws.{first_row}
use Rattle.laws.specs.RowLaws.{lacking_more, lacking_all}
use Rattle.plan.specs.Plan.{Vcpu}
use Rattle.plan.specs.Rules.{vcpu_of}
use Rattle.plan_tables.specs.Layout.{vcpu_width, task_width, cell, vcpu_row}
use Rattle.plan_tables.specs.Given.{guest_for}
use Rattle.given_tidy.specs.Hosts.{host_of, begins, last_at}

-- is this VCPU v?
abbrev pub named : ℕ → Vcpu → Bool
named v x = eqb x.v v

module _ (t : List ℕ) (n v : ℕ) where
  -- row i does not have it
  pub guest_more : {i x : ℕ} → Lacking (named v) (vcpu_row t) n i → i < n → x ≡ cell t vcpu_width i 0 → (x ≡ v → ⊥) → Lacking (named v) (vcpu_row t) n (i + 1)
  unfolding vcpu_row
  guest_more {i} h l e k = lacking_more h l refl (ne_eqb (cell t vcpu_width i 0) v (λ z. k (e ∙ z)))

  -- row i has it
  pub guest_hit :
      {i g x : ℕ} → Lacking (named v) (vcpu_row t) n i → i < n → g ≡ cell t vcpu_width i 1 → x ≡ cell t vcpu_width i 0 → x ≡ v →
      g ≡ guest_for (rows n (vcpu_row t)) v
  unfolding guest_for vcpu_row
  guest_hit {i} h l e f k =
      e ∙ sym (ap (λ (r : Vcpu). r.guest) (first_row (named v) (vcpu_of []) (vcpu_row t) n i h l (eq-eqb (cell t vcpu_width i 0) v (sym f ∙ k))))

  -- no row has it
  pub guest_none : {i : ℕ} → Lacking (named v) (vcpu_row t) n i → n ≤ i → 0 ≡ guest_for (rows n (vcpu_row t)) v
  unfolding guest_for
  guest_none h l = sym (ap (λ (r : Vcpu). r.guest) (first_none (named v) (vcpu_of []) (rows n (vcpu_row t)) (sym (lacking_all h l))))

-- a task of the VCPU of the task before it has that one's guest
pub host_kept :
    (vs : List Vcpu) (t : List ℕ) (i : ℕ) {p v w f : ℕ} → p ≡ i - 1 → v ≡ cell t task_width i 0 → w ≡ cell t task_width p 0 → f ≡ last_at vs t i →
    (leb 1 i && eqb v w) ≡ true → f ≡ host_of vs t i
unfolding host_of
host_kept vs t zero e a b h k = absurd (false≢true k)
host_kept vs t (suc i) {v = v} {w} e a b h k =
    let z : suc i - 1 ≡ i = omega arith in
    h ∙ ap (guest_for vs) (sym (sym a ∙ eqb-true v w (both_right (leb 1 (suc i)) (eqb v w) k) ∙ b ∙ ap (λ q. cell t task_width q 0) (e ∙ z)))

-- whether a task begins a section, and the guest before the next task, from its own guest and that of the task before it
module _ (vs : List Vcpu) (t : List ℕ) where
  pub begins_after : (i : ℕ) {g f : ℕ} {b : Bool} → f ≡ last_at vs t i → g ≡ host_of vs t i → b ≡ (eqb i 0 || not (eqb g f)) → b ≡ begins vs t i
  unfolding begins
  begins_after zero e h k = k
  begins_after (suc i) e h k = let z : suc i - 1 ≡ i = omega arith in rw (k, h, e, z)

  pub last_next : (i : ℕ) {g : ℕ} → g ≡ host_of vs t i → g ≡ last_at vs t (i + 1)
  last_next i e = rw add-one e
