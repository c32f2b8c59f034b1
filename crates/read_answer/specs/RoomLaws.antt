-- A reading is refused by 1 to 7 only: 8 is given for no fault.
use Rattle.std.specs.Prelude.{ℕ, ◌+◌, ◌≤◌, ◌≡◌, refl, List, [], ◌∷◌, Bool, true, false, cond, ◌&&◌, leb, Option, Some, None, Ok, Err}
use Rattle.std.proofs.Common.{arith, leb-true}
use Rattle.laws.specs.BoolLaws.{both_left, both_right}
use Rattle.laws.specs.Sums.{all}
use Rattle.laws.specs.Bytes.{pieces, is_nil}
use Rattle.plan.specs.Limits.{lf}
use Rattle.plan.specs.declared.Refusal.{Refusal}
use Rattle.plan.specs.declared.Refusal.TheVariants.{Shape, Number, Room}
use Rattle.plan.specs.declared.Kind.{Kind}
use Rattle.plan.specs.declared.Complaint.{Complaint}
use Rattle.plan.specs.Refusals.{complaint, number_of, unless, Fault}
use Rattle.plan.specs.Line.{Item, item_of}
use Rattle.plan.specs.Rules.{Known, start, Test, first_failed, tests_of, rule}
use Rattle.plan.specs.Reading.{Verdict, Faultless, FirstBad, rules, fault, fault_of, next_of, onward, judge, answer, Refuses, reading_by, reading}
use Rattle.plan.specs.Gathered.{items_in, plan_of}
use Rattle.plan.specs.KindLaws.{all_kind}

abbrev Low : Fault → Type 0
Low (Ok tt) = Unit {0}
Low (Err r) = number_of r ≤ 7

unless_low : (b : Bool) (r : Refusal) (f : Fault) → number_of r ≤ 7 → Low f → Low (unless b r f)
unfolding unless
unless_low true r f h k = k
unless_low false r f h k = h

-- among tests of numbers up to 7 the refusal has such a number
first_low : (xs : List Test) → all (λ x. leb (number_of x.refusal) 7) xs ≡ true → Low (first_failed xs)
unfolding all
first_low [] h = tt
first_low (x ∷ xs) h =
    let l = leb (number_of x.refusal) 7 in
    unless_low x.holds x.refusal (first_failed xs) (leb-true _ _ (both_left l _ h)) (first_low xs (both_right l _ h))

tests_low : (t : Known) (k : Kind) (ns : List ℕ) → all (λ x. leb (number_of x.refusal) 7) (tests_of t k ns) ≡ true
unfolding tests_of number_of all
tests_low t k ns = all_kind (λ k. all (λ x. leb (number_of x.refusal) 7) (tests_of t k ns)) refl k

rule_low : (t : Known) (k : Kind) (ns : List ℕ) → Low (rule t k ns)
unfolding rule
rule_low t k ns = first_low (tests_of t k ns) (tests_low t k ns)

fault_low : (t : Known) (o : Option Item) → Low (fault_of rules t o)
unfolding fault number_of
fault_low t None = omega arith
fault_low t (Some i) = unless_low _ Shape _ (omega arith) (unless_low _ Number _ (omega arith) (rule_low t i.kind i.nums))

abbrev LowVerdict : Verdict → Type 0
LowVerdict Faultless = Unit {0}
LowVerdict (FirstBad c) = number_of c.number ≤ 7

judge_low : (t : Known) (n : ℕ) (ls : List (List ℕ)) → LowVerdict (judge rules t n ls)
unfolding judge number_of
judge_low t n [] = omega arith
judge_low t n (l ∷ ls) =
    go (is_nil ls) (rules.ready t && is_nil l) (fault_of rules t (item_of l)) (fault_low t (item_of l)) (judge rules (next_of rules t (item_of l)) (n + 1) ls) (judge_low (next_of rules t (item_of l)) (n + 1) ls)
  where
    go : (a b : Bool) (f : Fault) → Low f → (v : Verdict) → LowVerdict v → LowVerdict (cond a (cond b Faultless (FirstBad (complaint Shape n 0))) (onward rules t (item_of l) f n v))
    go true true f h v k = tt
    go true false f h v k = omega arith
    go false b (Ok tt) h v k = k
    go false b (Err r) h v k = h

room_high : number_of Room ≤ 7 → ⊥
unfolding number_of
room_high h = omega arith

pub never_room : (s : List ℕ) (x : Complaint) → x.number ≡ Room → reading s ≡ Refuses x → ⊥
unfolding reading_by
never_room s x q h = go (judge rules start 1 (pieces lf s)) (judge_low start 1 (pieces lf s)) h
  where
    go : (v : Verdict) → LowVerdict v → answer v (plan_of (items_in (pieces lf s))) ≡ Refuses x → ⊥
    go Faultless k h = let z : ◌≡◌ {A = ℕ} 0 1 = cc in omega arith
    go (FirstBad c) k h = let z : c.number ≡ Room = cc in room_high (rw z at k)
