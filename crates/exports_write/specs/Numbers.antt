-- A plan's record as six numbers, for C: the policy (0 is P, 1 is D), the overrun choice (0 is N, 1 is O), and how many rows of VCPUs, mutexes, openings and tasks.
use Rattle.std.specs.Prelude.{ℕ, zero, suc, ◌≤◌, ◌<◌, ◌^◌, ◌≡◌, refl, List, [], ◌∷◌, Bool, true, false, ◌&&◌, ◌↔◌, eqb, leb, length, get_or, Result, Err}
use Rattle.std.proofs.Math.Path.{ap}
use Rattle.std.proofs.Common.{ap₂, sym, subst, ◌∙◌, arith, leb-true, eqb-true}
use Rattle.std.specs.Prelude.{if◌then◌else◌}
use Rattle.laws.specs.BoolLaws.{both_left, both_right}
use Rattle.plan.specs.declared.Refusal.TheVariants.{Foreign}
use Rattle.plan.specs.declared.Policy.{Policy}
use Rattle.plan.specs.declared.Policy.TheVariants.{Periodic, Deferrable}
use Rattle.plan.specs.declared.OverrunChoice.{OverrunChoice}
use Rattle.plan.specs.declared.OverrunChoice.TheVariants.{WithOverrun, WithoutOverrun}
use Rattle.plan.specs.declared.Refusal.{Refusal}
use Rattle.plan_tables.specs.declared.PlanRecord.{PlanRecord}
use Rattle.plan_tables.specs.Layout.{Tables}
use Rattle.plan_tables.proofs.GivenLaws.{given_exactly}
use Rattle.listing_lines.specs.Into.{bytes_in}
use Rattle.write_asked.specs.Asked.{plan_asked, plan_left}
use Rattle.write_asked.proofs.Back.{Outcome, Whole, Short, Nobody, outcome}
use Rattle.write_asked.specs.Short.{most_text, text_short}

abbrev pub policy_number : Policy → ℕ
policy_number Periodic = 0
policy_number Deferrable = 1

abbrev pub overrun_number : OverrunChoice → ℕ
overrun_number WithoutOverrun = 0
overrun_number WithOverrun = 1

abbrev pub numbers_of : PlanRecord → List ℕ
numbers_of r = policy_number r.policy ∷ overrun_number r.overrun ∷ r.vcpus ∷ r.mutexes ∷ r.opens ∷ r.tasks ∷ []

-- read back
abbrev pub policy_from : ℕ → Policy
policy_from zero = Periodic
policy_from (suc n) = Deferrable

abbrev pub overrun_from : ℕ → OverrunChoice
overrun_from zero = WithoutOverrun
overrun_from (suc n) = WithOverrun

unfoldable pub record_from : List ℕ → PlanRecord
record_from ns = record {
  policy = policy_from (get_or ns 0 0);
  overrun = overrun_from (get_or ns 1 0);
  vcpus = get_or ns 2 0;
  mutexes = get_or ns 3 0;
  opens = get_or ns 4 0;
  tasks = get_or ns 5 0;
}

-- are these the numbers of a record?
unfoldable pub is_record : List ℕ → Bool
is_record ns = eqb (length ns) 6 && (leb (get_or ns 0 0) 1 && leb (get_or ns 1 0) 1)

-- what is asked of six numbers and tables: 9 where they are no record's
unfoldable pub numbers_asked : List ℕ → Tables → List ℕ → Result ℕ Refusal
numbers_asked ns t o = if is_record ns then plan_asked (record_from ns) t o else Err Foreign

unfoldable pub numbers_left : List ℕ → Tables → List ℕ → List ℕ
numbers_left ns t o = if is_record ns then plan_left (record_from ns) t o else o

-- A RECORD'S NUMBERS, AND NO OTHERS
policy_back : (p : Policy) → (policy_from (policy_number p) ≡ p) × (leb (policy_number p) 1 ≡ true)
policy_back Periodic = (refl, refl)
policy_back Deferrable = (refl, refl)

overrun_back : (o : OverrunChoice) → (overrun_from (overrun_number o) ≡ o) × (leb (overrun_number o) 1 ≡ true)
overrun_back WithOverrun = (refl, refl)
overrun_back WithoutOverrun = (refl, refl)

policy_number_law : (n : ℕ) → n ≤ 1 → n ≡ policy_number (policy_from n)
policy_number_law zero h = refl
policy_number_law (suc n) h = omega arith

overrun_number_law : (n : ℕ) → n ≤ 1 → n ≡ overrun_number (overrun_from n)
overrun_number_law zero h = refl
overrun_number_law (suc n) h = omega arith

six : (ns : List ℕ) → length ns ≡ 6 → ns ≡ get_or ns 0 0 ∷ get_or ns 1 0 ∷ get_or ns 2 0 ∷ get_or ns 3 0 ∷ get_or ns 4 0 ∷ get_or ns 5 0 ∷ []
six [] h = absurd (omega (arith, h))
six (a ∷ []) h = absurd (omega (arith, h))
six (a ∷ b ∷ []) h = absurd (omega (arith, h))
six (a ∷ b ∷ c ∷ []) h = absurd (omega (arith, h))
six (a ∷ b ∷ c ∷ d ∷ []) h = absurd (omega (arith, h))
six (a ∷ b ∷ c ∷ d ∷ e ∷ []) h = absurd (omega (arith, h))
six (a ∷ b ∷ c ∷ d ∷ e ∷ f ∷ []) h = refl
six (a ∷ b ∷ c ∷ d ∷ e ∷ f ∷ g ∷ ns) h = absurd (omega (arith, h))

pub record_back : (r : PlanRecord) → record_from (numbers_of r) ≡ r
unfolding record_from
record_back r =
    λ i. record { policy = (policy_back r.policy).0 i; overrun = (overrun_back r.overrun).0 i; vcpus = r.vcpus; mutexes = r.mutexes; opens = r.opens; tasks = r.tasks }

pub record_exactly : (ns : List ℕ) → (is_record ns ≡ true) ↔ ((r : PlanRecord) × (ns ≡ numbers_of r))
unfolding is_record record_from
record_exactly ns = (
  λ h.
      let l = both_right (eqb (length ns) 6) _ h in
      let p = policy_number_law (get_or ns 0 0) (leb-true (get_or ns 0 0) 1 (both_left (leb (get_or ns 0 0) 1) _ l)) in
      let o = overrun_number_law (get_or ns 1 0) (leb-true (get_or ns 1 0) 1 (both_right (leb (get_or ns 0 0) 1) _ l)) in
      let e : ns ≡ get_or ns 0 0 ∷ get_or ns 1 0 ∷ get_or ns 2 0 ∷ get_or ns 3 0 ∷ get_or ns 4 0 ∷ get_or ns 5 0 ∷ [] = six ns (eqb-true (length ns) 6 (both_left (eqb (length ns) 6) _ h)) in
      let rest : List ℕ = get_or ns 2 0 ∷ get_or ns 3 0 ∷ get_or ns 4 0 ∷ get_or ns 5 0 ∷ [] in
      (record_from ns, e ∙ ap₂ (λ a b. a ∷ b ∷ rest) p o),
  λ h. ap is_record h.1 ∙ rw ((policy_back h.0.policy).1, (overrun_back h.0.overrun).1),
)

-- what is asked of a record's numbers is what is asked of the record, so all that is said of plans in tables (write_asked/Back) holds for C
pub numbers_same : (r : PlanRecord) (t : Tables) (o : List ℕ) → (numbers_asked (numbers_of r) t o ≡ plan_asked r t o) × (numbers_left (numbers_of r) t o ≡ plan_left r t o)
unfolding numbers_asked numbers_left
numbers_same r t o =
    let e = (record_exactly (numbers_of r)).1 (r, refl) in
    let f = record_back r in (
      ap (λ (b : Bool). if b then plan_asked (record_from (numbers_of r)) t o else Err Foreign) e ∙ ap (λ x. plan_asked x t o) f,
      ap (λ (b : Bool). if b then plan_left (record_from (numbers_of r)) t o else o) e ∙ ap (λ x. plan_left x t o) f,
    )

-- AS CODE FINDS OUT
pub policy_some : (n : ℕ) → (n ≡ 0 → ⊥) → Deferrable ≡ policy_from n
policy_some zero h = absurd (h refl)
policy_some (suc n) h = refl

pub overrun_some : (n : ℕ) → (n ≡ 0 → ⊥) → WithOverrun ≡ overrun_from n
overrun_some zero h = absurd (h refl)
overrun_some (suc n) h = refl

pub record_told : (ns : List ℕ) {a b : ℕ} → a ≡ get_or ns 0 0 → b ≡ get_or ns 1 0 → (eqb (length ns) 6 && (leb a 1 && leb b 1)) ≡ is_record ns
unfolding is_record
record_told ns e f = rw (e, f)

pub record_made :
    (ns : List ℕ) {a b v m o k : ℕ} {p : Policy} {c : OverrunChoice} → a ≡ get_or ns 0 0 → p ≡ policy_from a → b ≡ get_or ns 1 0 → c ≡ overrun_from b →
    v ≡ get_or ns 2 0 → m ≡ get_or ns 3 0 → o ≡ get_or ns 4 0 → k ≡ get_or ns 5 0 →
    record { policy = p; overrun = c; vcpus = v; mutexes = m; opens = o; tasks = k } ≡ record_from ns
unfolding record_from
record_made ns ea ep eb ec ev em eo ek = rw (ep, ea, ec, eb, ev, em, eo, ek)

module _ (ns : List ℕ) (t : Tables) (o : List ℕ) {b : Bool} (e : b ≡ is_record ns) where
  pub numbers_none : b ≡ false → (Err Foreign ≡ numbers_asked ns t o) × (o ≡ numbers_left ns t o)
  unfolding numbers_asked numbers_left
  numbers_none h = rw (sym e ∙ h) (refl, refl)

  pub numbers_some :
      b ≡ true → {r : PlanRecord} → r ≡ record_from ns → {a : Result ℕ Refusal} {p : List ℕ} → a ≡ plan_asked r t o → p ≡ plan_left r t o →
      (a ≡ numbers_asked ns t o) × (p ≡ numbers_left ns t o)
  unfolding numbers_asked numbers_left
  numbers_some h k f g = rw (sym e ∙ h) (f ∙ ap (λ r. plan_asked r t o) k, g ∙ ap (λ r. plan_left r t o) k)

-- no answer counts more bytes than a number of 64 bits with a sign can hold
asked_short : (r : PlanRecord) (t : Tables) (o : List ℕ) → bytes_in (plan_asked r t o) ≤ most_text
asked_short r t o = go (outcome r t o)
  where
    go : Outcome r t o → bytes_in (plan_asked r t o) ≤ most_text
    go (Whole g l e h) = subst (λ a. bytes_in a ≤ most_text) (sym e) (text_short r t ((given_exactly r t).1 g))
    go (Short g l e h) = subst (λ a. bytes_in a ≤ most_text) (sym e) (omega arith)
    go (Nobody g e h) = subst (λ a. bytes_in a ≤ most_text) (sym e) (omega arith)

pub numbers_short : (ns : List ℕ) (t : Tables) (o : List ℕ) → bytes_in (numbers_asked ns t o) < 2 ^ 63
unfolding numbers_asked
numbers_short ns t o = go (is_record ns)
  where
    go : (b : Bool) → bytes_in (if b then plan_asked (record_from ns) t o else Err Foreign) < 2 ^ 63
    go true = omega (arith, asked_short (record_from ns) t o)
    go false = omega arith
