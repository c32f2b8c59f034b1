-- No line has more than six fields, so that no field of a refusal is above 6.
use Rattle.std.specs.Prelude.{ℕ, ◌+◌, ◌-◌, ◌≤◌, ◌<◌, ◌≡◌, refl, List, [], ◌∷◌, Bool, true, false, cond, ◌&&◌, leb, ltb, length, Option, Some, None, Ok, Err}
use Rattle.std.proofs.Common.{arith, leb-true, ltb-true}
use Rattle.laws.specs.Sums.{all}
use Rattle.laws.specs.Bytes.{pieces, is_nil}
use Rattle.laws.specs.Decimal.{value}
use Rattle.plan.specs.Limits.{max_digits, tab, lf}
use Rattle.plan.specs.declared.Refusal.{Refusal}
use Rattle.plan.specs.declared.Refusal.TheVariants.{Shape, Number, Range, Order, Missing, Outside, TooMany, Room, Foreign, Unknown, Unlisted, Asleep, Busy, NotHolder, Supply}
use Rattle.plan.specs.declared.Complaint.{Complaint}
use Rattle.plan.specs.declared.Kind.{Kind}
use Rattle.plan.specs.Refusals.{complaint, Fault}
use Rattle.plan.specs.Line.{Form, Word, Num, bad, head_or, shape, kinds, kind_in, number_at, numbers, item_from, item_of}
use Rattle.plan.specs.KindLaws.{all_kind}
use Rattle.plan.specs.Lookup.{global}
use Rattle.plan.specs.Rules.{Known, start}
use Rattle.plan.specs.Fields.{unwritten, ranges, first_out, missing, field_of}
use Rattle.plan.specs.Gathered.{plan_of, items_in}
use Rattle.plan.specs.Reading.{Verdict, Faultless, FirstBad, fault_of, field_at, next_of, finish, onward, judge, rules, Refuses, answer, reading_by, reading}

shape_few : (k : Kind) → length (shape k) ≤ 6
unfolding shape all
shape_few k = leb-true (length (shape k)) 6 (all_kind (λ k. leb (length (shape k)) 6) refl k)

-- what a field says lies above `bad` by no more than its place
number_few : (k : ℕ) (f : List ℕ) → number_at k f - bad ≤ k
unfolding number_at
number_few k f = go (ltb (value max_digits f) bad) refl
  where
    go : (t : Bool) → ltb (value max_digits f) bad ≡ t → cond t (value max_digits f) (bad + k) - bad ≤ k
    go true e = let h : value max_digits f < bad = ltb-true _ _ e in omega arith
    go false e = omega arith

-- the field of a number that is not written, from field k on: one of the shape's
unwritten_few : (k b : ℕ) (ps : List Form) (fs : List (List ℕ)) → k + length ps ≤ b + 1 → unwritten (numbers k ps fs) ≤ b
unfolding unwritten numbers
unwritten_few k b [] fs h = omega arith
unwritten_few k b (p ∷ ps) [] h = omega arith
unwritten_few k b (Word w ∷ ps) (f ∷ fs) h = unwritten_few (k + 1) b ps fs (omega arith)
unwritten_few k b (Num ∷ ps) (f ∷ fs) h = go (ltb (number_at k f) bad) (unwritten_few (k + 1) b ps fs (omega arith))
  where
    go : (t : Bool) → unwritten (numbers (k + 1) ps fs) ≤ b → cond t (unwritten (numbers (k + 1) ps fs)) (number_at k f - bad) ≤ b
    go true i = i
    go false i = omega (arith, number_few k f)

-- and so is that of a number out of its range
out_few : (k b : ℕ) (ps : List Form) (bs : List Bool) → k + length ps ≤ b + 1 → first_out k ps bs ≤ b
unfolding first_out
out_few k b [] bs h = omega arith
out_few k b (Word w ∷ ps) bs h = out_few (k + 1) b ps bs (omega arith)
out_few k b (Num ∷ ps) [] h = omega arith
out_few k b (Num ∷ ps) (true ∷ bs) h = out_few (k + 1) b ps bs (omega arith)
out_few k b (Num ∷ ps) (false ∷ bs) h = omega arith

missing_few : (g : Bool) (k : Kind) → missing g k ≤ 6
unfolding all
missing_few true k = leb-true (missing true k) 6 (all_kind (λ k. leb (missing true k) 6) refl k)
missing_few false k = leb-true (missing false k) 6 (all_kind (λ k. leb (missing false k) 6) refl k)

-- the field of a line
field_of_few : (g : Bool) (k : Kind) (fs : List (List ℕ)) (r : Refusal) → field_of g k (numbers 1 (shape k) fs) r ≤ 6
unfolding field_of
field_of_few g k fs Number = unwritten_few 1 6 (shape k) fs (omega (arith, shape_few k))
field_of_few g k fs Range = out_few 1 6 (shape k) (ranges k (numbers 1 (shape k) fs)) (omega (arith, shape_few k))
field_of_few g k fs Missing = missing_few g k
field_of_few g k fs Outside = omega arith
field_of_few g k fs Shape = omega arith
field_of_few g k fs Order = omega arith
field_of_few g k fs TooMany = omega arith
field_of_few g k fs Room = omega arith
field_of_few g k fs Foreign = omega arith
field_of_few g k fs Unknown = omega arith
field_of_few g k fs Unlisted = omega arith
field_of_few g k fs Asleep = omega arith
field_of_few g k fs Busy = omega arith
field_of_few g k fs NotHolder = omega arith
field_of_few g k fs Supply = omega arith

field_at_few : (t : Known) (l : List ℕ) (r : Refusal) → field_at rules t (item_of l) r ≤ 6
unfolding item_of
field_at_few t l r = go (kind_in kinds (pieces tab l))
  where
    go : (o : Option Kind) → field_at rules t (item_from (pieces tab l) o) r ≤ 6
    go None = omega arith
    go (Some k) = field_of_few (global t.mutexes (head_or (numbers 1 (shape k) (pieces tab l)))) k (pieces tab l) r

-- a verdict whose field is one of six, or 0
abbrev Few : Verdict → Type 0
Few Faultless = Unit {0}
Few (FirstBad c) = c.field ≤ 6

judge_few : (t : Known) (n : ℕ) (ls : List (List ℕ)) → Few (judge rules t n ls)
unfolding judge
judge_few t n [] = omega arith
judge_few t n (l ∷ ls) =
    go (is_nil ls) (finish rules t l n) _ (end (rules.ready t && is_nil l))
    (on (fault_of rules t (item_of l)) _ (judge_few (next_of rules t (item_of l)) (n + 1) ls))
  where
    end : (q : Bool) → Few (cond q Faultless (FirstBad (complaint Shape n 0)))
    end true = tt
    end false = omega arith

    on : (f : Fault) (v : Verdict) → Few v → Few (onward rules t (item_of l) f n v)
    on (Ok tt) v h = h
    on (Err r) v h = field_at_few t l r

    go : (q : Bool) (u v : Verdict) → Few u → Few v → Few (cond q u v)
    go true u v h k = h
    go false u v h k = k

pub field_few : (s : List ℕ) (c : Complaint) → reading s ≡ Refuses c → c.field ≤ 6
unfolding reading_by
field_few s c h = go (judge rules start 1 (pieces lf s)) (judge_few start 1 (pieces lf s)) h
  where
    go : (v : Verdict) → Few v → answer v (plan_of (items_in (pieces lf s))) ≡ Refuses c → c.field ≤ 6
    go Faultless h q = absurd (let z : ◌≡◌ {A = ℕ} 0 1 = cc in omega arith)
    go (FirstBad d) h q = let z : d ≡ c = cc in rw z at h
