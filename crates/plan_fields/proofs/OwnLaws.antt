-- The field of a refused line is the leftmost whose own test fails with the lowest number.
use Rattle.std.specs.Prelude.{ℕ, ◌+◌, ◌≡◌, refl, List, [], ◌∷◌, ◌++◌, Bool, true, false, ◌&&◌, ltb, get_or, Option, Some, None, Err}
use Rattle.std.proofs.Common.{ap, sym, ◌∙◌, inl, inr, arith}
use Rattle.std.proofs.lemmas.Bool.{false≢true}
use Rattle.laws.specs.BoolLaws.{both_right}
use Rattle.laws.specs.Bytes.{pieces, same}
use Rattle.laws.specs.Decimal.{value}
use Rattle.plan.specs.Limits.{max_digits, tab, lf}
use Rattle.plan.specs.declared.Refusal.{Refusal}
use Rattle.plan.specs.declared.Refusal.TheVariants.{Shape, Number, Range, Order, Missing, Outside, TooMany, Room, Foreign, Unknown, Unlisted, Asleep, Busy, NotHolder, Supply}
use Rattle.plan.specs.declared.Kind.{Kind}
use Rattle.plan.specs.declared.Complaint.{Complaint}
use Rattle.plan.specs.Refusals.{number_of, unless, Fault}
use Rattle.plan.specs.Line.{Form, Word, Num, Item, bad, shape, has_shape, numbers, kinds, kind_in, item_from, item_of, written}
use Rattle.plan.specs.Rules.{Known, start, follows, first_failed, tests_of, rule, vcpu_fits}
use Rattle.plan.specs.Fields.{unwritten, ranges, first_out, field_of}
use Rattle.plan.specs.Reading.{rules, fault, fault_of, field_at, Refuses, reading}
use Rattle.plan.specs.KindLaws.{each_kind}
use Rattle.plan.specs.LineLaws.{kind_has}
use Rattle.plan.specs.FirstFault.{FirstFault, HasFault, seen_after, refused_exactly}
use Rattle.plan_fields.specs.Own.{Own, asked, placed, as_numbers, bounds, in_bounds, others, own_tests, Decides}
use Rattle.plan_fields.specs.PlacedLaws.{number_test, Names, first_decides, names_append, all_order, placed_names, unwritten_out, others_names}
use Rattle.plan_fields.specs.OwnLaws.{Told}

-- a test of two is two tests of one refusal
unless_both : (a b : Bool) (r : Refusal) (f : Fault) → unless (a && b) r f ≡ unless a r (unless b r f)
unfolding unless
unless_both true b r f = refl
unless_both false b r f = refl

-- and they change places
unless_swap : (a b : Bool) (r : Refusal) (f : Fault) → unless a r (unless b r f) ≡ unless b r (unless a r f)
unfolding unless
unless_swap true true r f = refl
unless_swap true false r f = refl
unless_swap false true r f = refl
unless_swap false false r f = refl

-- `vcpu` asks its period before its budget
unless_five :
    (a b c d e : Bool) (r : Refusal) (f : Fault) →
    unless a r (unless b r (unless c r (unless e r (unless d r f)))) ≡ unless (a && (b && (c && (d && e)))) r f
unfolding unless
unless_five false b c d e r f = refl
unless_five true false c d e r f = refl
unless_five true true false d e r f = refl
unless_five true true true d e r f = unless_swap e d r f ∙ sym (unless_both d e r f)

-- a line's item has the shape of its kind, and the numbers that its fields say
item_has : (l : List ℕ) (i : Item) → item_of l ≡ Some i → (has_shape (shape i.kind) (pieces tab l) ≡ true) × (i.nums ≡ numbers 1 (shape i.kind) (pieces tab l))
unfolding item_of
item_has l i h = go (kind_in kinds (pieces tab l)) refl h
  where
    go :
        (o : Option Kind) → kind_in kinds (pieces tab l) ≡ o → item_from (pieces tab l) o ≡ Some i →
        (has_shape (shape i.kind) (pieces tab l) ≡ true) × (i.nums ≡ numbers 1 (shape i.kind) (pieces tab l))
    go None e q = absurd (let z : ◌≡◌ {A = ℕ} 0 1 = cc in omega arith)
    go (Some k) e q =
        let j : record { kind = k; nums = numbers 1 (shape k) (pieces tab l) } ≡ i = cc in
        rw (← j) (kind_has kinds (pieces tab l) k e, refl)

-- the tests of all number fields are the test that the numbers are written
number_part :
    (k : ℕ) (ps : List Form) (fs : List (List ℕ)) (xs : List Own) → has_shape ps fs ≡ true →
    first_failed (asked (placed Number k ps (as_numbers ps fs) ++ xs)) ≡ unless (written ps (numbers k ps fs)) Number (first_failed (asked xs))
unfolding has_shape numbers written unless
number_part k [] [] xs h = refl
number_part k [] (f ∷ fs) xs h = absurd (false≢true h)
number_part k (Word w ∷ ps) [] xs h = absurd (false≢true h)
number_part k (Num ∷ ps) [] xs h = absurd (false≢true h)
number_part k (Word w ∷ ps) (f ∷ fs) xs h = number_part (k + 1) ps fs xs (both_right (same f w) (has_shape ps fs) h)
number_part k (Num ∷ ps) (f ∷ fs) xs h =
    ap (unless (ltb (value max_digits f) bad) Number) (number_part (k + 1) ps fs xs h)
    ∙ sym (unless_both (ltb (value max_digits f) bad) (written ps (numbers (k + 1) ps fs)) Number (first_failed (asked xs)))
    ∙ ap (λ b. unless (b && written ps (numbers (k + 1) ps fs)) Number (first_failed (asked xs))) (sym (number_test k f))

-- each number is tested against its own range
abbrev in_range : Kind → List ℕ → List Bool
in_range k ns = in_bounds 0 ns (bounds k ns)

ranges_own : (k : Kind) (ns : List ℕ) → ranges k ns ≡ in_range k ns
unfolding ranges bounds
ranges_own k ns = each_kind (λ k. ranges k ns ≡ in_range k ns)
    (refl, (refl, (refl, (refl, (refl, (refl, (refl, (refl, (refl, (refl, (refl, (refl, (refl, (refl, (refl, (refl, (refl, (refl, (refl, tt)))))))))))))))))))
    k

-- the tests of the ranges and the others are together the line's
rest_part : (t : Known) (k : Kind) (ns : List ℕ) → first_failed (asked (placed Range 1 (shape k) (in_range k ns) ++ others t k ns)) ≡ first_failed (tests_of t k ns)
unfolding shape bounds others tests_of vcpu_fits
rest_part t k ns = each_kind (λ k. first_failed (asked (placed Range 1 (shape k) (in_range k ns) ++ others t k ns)) ≡ first_failed (tests_of t k ns))
    (refl, (refl, (refl, (refl, (refl, (unless_five _ _ _ _ _ _ _, (refl, (sym (unless_both _ _ _ _), (simp unless_both, (refl, (simp unless_both, (refl, (sym (unless_both _ _ _ _), (refl, (refl, (refl, (refl, (refl, (refl, tt)))))))))))))))))))
    k

-- the tests of the fields are together those of the line: without their fields they give the fault
pub own_fault : (t : Known) (l : List ℕ) (i : Item) → item_of l ≡ Some i → first_failed (asked (own_tests t l i)) ≡ fault rules t i
unfolding fault rule
own_fault t l i e =
    let k : Kind = i.kind in
    let ns : List ℕ = i.nums in
    let h = item_has l i e in
    let n = number_part 1 (shape k) (pieces tab l) (placed Range 1 (shape k) (in_range k ns) ++ others t k ns) h.0 in
    let w = ap (λ ms. unless (written (shape k) ms) Number (first_failed (tests_of t k ns))) (sym h.1) in
    ap (unless (follows t.phase k) Shape) (n ∙ ap (unless (written (shape k) (numbers 1 (shape k) (pieces tab l))) Number) (rest_part t k ns) ∙ w)

-- the field of a line's refusal is that of its first test that fails
all_names : (t : Known) (l : List ℕ) (i : Item) → item_of l ≡ Some i → Names (rules.field t i) (own_tests t l i)
unfolding field_of
all_names t l i e =
    let k : Kind = i.kind in
    let ns : List ℕ = i.nums in
    let F : Refusal → ℕ = rules.field t i in
    let bs : List Bool = as_numbers (shape k) (pieces tab l) in
    let zs : List Own = placed Range 1 (shape k) (in_range k ns) in
    let y = placed_names F Number 1 (shape k) bs (ap unwritten (item_has l i e).1 ∙ unwritten_out 1 (shape k) (pieces tab l)) in
    let z = placed_names F Range 1 (shape k) (in_range k ns) (ap (first_out 1 (shape k)) (ranges_own k ns)) in
    (λ h. refl, λ h. names_append F (placed Number 1 (shape k) bs) (zs ++ others t k ns) y (names_append F zs (others t k ns) z (others_names t k ns)))

-- THE FIELD of a line that is refused
pub field_decides : (t : Known) (l : List ℕ) (i : Item) (r : Refusal) → item_of l ≡ Some i → fault rules t i ≡ Err r → Decides r (rules.field t i r) (own_tests t l i)
field_decides t l i r e h =
    let o = all_order t i.kind i.nums (follows t.phase i.kind) (shape i.kind) (as_numbers (shape i.kind) (pieces tab l)) (in_range i.kind i.nums) in
    first_decides (rules.field t i) (own_tests t l i) r o (all_names t l i e) (own_fault t l i e ∙ h)

-- a faulty line is told so
fault_told : (t : Known) (l : List ℕ) (ls : List (List ℕ)) (c : Complaint) → HasFault rules t l ls c.number c.field → Told t l ls c
fault_told t l [] c h = (h.1, h.2)
fault_told t l (m ∷ ls) c h = go (item_of l) refl h
  where
    go : (o : Option Item) → item_of l ≡ o → (fault_of rules t o ≡ Err c.number) × (c.field ≡ field_at rules t o c.number) → Told t l (m ∷ ls) c
    go None e h = inl (e, let q : ◌≡◌ {A = Fault} (Err Shape) (Err c.number) = h.0 in cc, h.1)
    go (Some i) e h = inr (i, e, rw h.1 (field_decides t l i c.number e h.0))

-- OF EVERY REFUSED PLAN: number and field decide at the first bad line
pub refused_field :
    (s : List ℕ) (c : Complaint) → reading s ≡ Refuses c →
    (f : FirstFault rules start 1 (pieces lf s) c) × Told (seen_after rules start f.before) f.line f.after c
refused_field s c h = let f = (refused_exactly s c).0 h in (f, fault_told (seen_after rules start f.before) f.line f.after c f.faulty)

-- a number is one refusal's
refusals : List Refusal
refusals = Shape ∷ Shape ∷ Number ∷ Range ∷ Order ∷ Missing ∷ Outside ∷ TooMany ∷ Room ∷ Foreign ∷ Unknown ∷ Unlisted ∷ Asleep ∷ Busy ∷ NotHolder ∷ Supply ∷ []

refusal_at : (r : Refusal) → get_or refusals (number_of r) Shape ≡ r
unfolding refusals number_of
refusal_at = elim [
  | Shape ↦ refl
  | Number ↦ refl
  | Range ↦ refl
  | Order ↦ refl
  | Missing ↦ refl
  | Outside ↦ refl
  | TooMany ↦ refl
  | Room ↦ refl
  | Foreign ↦ refl
  | Unknown ↦ refl
  | Unlisted ↦ refl
  | Asleep ↦ refl
  | Busy ↦ refl
  | NotHolder ↦ refl
  | Supply ↦ refl
]

-- and no other number and field do
pub decides_one : (r s : Refusal) (k j : ℕ) (xs : List Own) → Decides r k xs → Decides s j xs → (r ≡ s) × (k ≡ j)
decides_one r s k j xs a b =
    let n : number_of r ≡ number_of s = omega (arith, a.lowest s j b.fails, b.lowest r k a.fails) in
    let e : r ≡ s = sym (refusal_at r) ∙ ap (λ n. get_or refusals n Shape) n ∙ refusal_at s in
    (e, omega (arith, a.leftmost j (rw e b.fails), b.leftmost k (rw (← e) a.fails)))
