-- "Which refusal is given does not change": of every list of bytes, and the plan of one that is accepted neither.
use Rattle.std.specs.Prelude.{ℕ, ◌+◌, ◌≡◌, refl, List, [], ◌∷◌, Bool, true, false, cond, ◌&&◌, ltb, Option, Some, None, Ok, Err}
use Rattle.std.proofs.Common.{ap, ap₂, sym, ◌∙◌, arith}
use Rattle.laws.specs.BoolLaws.{both_left, both_right}
use Rattle.laws.specs.Bytes.{pieces, is_nil}
use Rattle.laws.specs.Decimal.{value}
use Rattle.plan.specs.Limits.{max_digits, tab, lf}
use Rattle.plan.specs.declared.Refusal.TheVariants.{Shape, Number}
use Rattle.plan.specs.declared.Kind.{Kind}
use Rattle.plan.specs.Refusals.{complaint, unless, Fault}
use Rattle.plan.specs.Line.{Form, Word, Num, bad, shape, kinds, kind_in, number_at, numbers, item_from, item_of, written}
use Rattle.plan.specs.Rules.{Known, start, follows, rule}
use Rattle.plan.specs.Gathered.{plan_of, push, items_in}
use Rattle.plan.specs.JudgeLaws.{fault_written}
use Rattle.plan.specs.Reading.{Verdict, Faultless, FirstBad, rules, fault, fault_of, next_of, onward, judge, Reading, Accepts, Refuses, answer, reading_by, reading}
use Rattle.plan_fields.specs.PlacedLaws.{number_test}
use Rattle.plan_fields.specs.Before.{numbers_before, item_from_before, item_before, VerdictBefore, FaultlessBefore, FirstBadBefore, onward_before, judge_before, items_before, ReadingBefore, AcceptsBefore, RefusesBefore, answer_before, reading_before}

written_same : (k : ℕ) (ps : List Form) (fs : List (List ℕ)) → written ps (numbers k ps fs) ≡ written ps (numbers_before ps fs)
unfolding written numbers numbers_before
written_same k [] fs = refl
written_same k (Word w ∷ ps) [] = refl
written_same k (Num ∷ ps) [] = refl
written_same k (Word w ∷ ps) (f ∷ fs) = written_same (k + 1) ps fs
written_same k (Num ∷ ps) (f ∷ fs) = ap₂ ◌&&◌ (number_test k f) (written_same (k + 1) ps fs)

-- numbers that are written are the same
numbers_same : (k : ℕ) (ps : List Form) (fs : List (List ℕ)) → written ps (numbers_before ps fs) ≡ true → numbers k ps fs ≡ numbers_before ps fs
unfolding written numbers numbers_before number_at
numbers_same k [] fs h = refl
numbers_same k (Word w ∷ ps) [] h = refl
numbers_same k (Num ∷ ps) [] h = refl
numbers_same k (Word w ∷ ps) (f ∷ fs) h = numbers_same (k + 1) ps fs h
numbers_same k (Num ∷ ps) (f ∷ fs) h =
    let b : Bool = ltb (value max_digits f) bad in
    let w : Bool = written ps (numbers_before ps fs) in
    rw (both_left b w h) (ap (λ ns. value max_digits f ∷ ns) (numbers_same (k + 1) ps fs (both_right b w h)))

-- numbers that are not written are looked at no further
number_fault : (t : Known) (k : Kind) (ns ms : List ℕ) (b : Bool) → (b ≡ true → ns ≡ ms) → unless b Number (rule t k ns) ≡ unless b Number (rule t k ms)
unfolding unless
number_fault t k ns ms true h = ap (rule t k) (h refl)
number_fault t k ns ms false h = refl

-- so every line has the fault that it had
fault_same : (t : Known) (l : List ℕ) → fault_of rules t (item_of l) ≡ fault_of rules t (item_before l)
unfolding item_of item_before fault
fault_same t l = go (kind_in kinds (pieces tab l))
  where
    go : (o : Option Kind) → fault_of rules t (item_from (pieces tab l) o) ≡ fault_of rules t (item_from_before (pieces tab l) o)
    go None = refl
    go (Some k) =
        let fs = pieces tab l in
        rw (written_same 1 (shape k) fs)
        (ap (unless (follows t.phase k) Shape) (number_fault t k _ _ (written (shape k) (numbers_before (shape k) fs)) (numbers_same 1 (shape k) fs)))

-- and one without a fault says what it said
item_same : (t : Known) (l : List ℕ) → fault_of rules t (item_of l) ≡ Ok tt → item_of l ≡ item_before l
unfolding item_of item_before
item_same t l = go (kind_in kinds (pieces tab l))
  where
    go : (o : Option Kind) → fault_of rules t (item_from (pieces tab l) o) ≡ Ok tt → item_from (pieces tab l) o ≡ item_from_before (pieces tab l) o
    go None h = refl
    go (Some k) h =
        let fs = pieces tab l in
        rw (numbers_same 1 (shape k) fs (sym (written_same 1 (shape k) fs) ∙ fault_written rules t _ h))

-- a verdict without the field
abbrev verdict_without : Verdict → VerdictBefore
verdict_without Faultless = FaultlessBefore
verdict_without (FirstBad c) = FirstBadBefore c.number c.line

verdict_same : (t : Known) (n : ℕ) (ls : List (List ℕ)) → verdict_without (judge rules t n ls) ≡ judge_before t n ls
unfolding judge judge_before
verdict_same t n [] = refl
verdict_same t n (l ∷ []) = go (rules.ready t && is_nil l)
  where
    go : (b : Bool) → verdict_without (cond b Faultless (FirstBad (complaint Shape n 0))) ≡ cond b FaultlessBefore (FirstBadBefore Shape n)
    go true = refl
    go false = refl
verdict_same t n (l ∷ m ∷ ls) =
    rw (← fault_same t l) (go (fault_of rules t (item_of l)) refl (verdict_same (next_of rules t (item_of l)) (n + 1) (m ∷ ls)))
  where
    go :
        (f : Fault) → fault_of rules t (item_of l) ≡ f →
        verdict_without (judge rules (next_of rules t (item_of l)) (n + 1) (m ∷ ls)) ≡ judge_before (next_of rules t (item_of l)) (n + 1) (m ∷ ls) →
        verdict_without (onward rules t (item_of l) f n (judge rules (next_of rules t (item_of l)) (n + 1) (m ∷ ls)))
        ≡ onward_before f n (judge_before (next_of rules t (item_before l)) (n + 1) (m ∷ ls))
    go (Ok tt) e ih = ih ∙ ap (λ o. judge_before (next_of rules t o) (n + 1) (m ∷ ls)) (item_same t l e)
    go (Err r) e ih = refl

-- faultless lines say what they said
items_same : (t : Known) (n : ℕ) (ls : List (List ℕ)) → judge rules t n ls ≡ Faultless → items_in ls ≡ items_before ls
unfolding judge items_in items_before
items_same t n [] h = refl
items_same t n (l ∷ []) h = refl
items_same t n (l ∷ m ∷ ls) h = go (fault_of rules t (item_of l)) refl h (items_same (next_of rules t (item_of l)) (n + 1) (m ∷ ls))
  where
    go :
        (f : Fault) → fault_of rules t (item_of l) ≡ f → onward rules t (item_of l) f n (judge rules (next_of rules t (item_of l)) (n + 1) (m ∷ ls)) ≡ Faultless →
        (judge rules (next_of rules t (item_of l)) (n + 1) (m ∷ ls) ≡ Faultless → items_in (m ∷ ls) ≡ items_before (m ∷ ls)) →
        push (item_of l) (items_in (m ∷ ls)) ≡ push (item_before l) (items_before (m ∷ ls))
    go (Ok tt) e h ih = ap₂ push (item_same t l e) (ih h)
    go (Err r) e h ih = absurd (let z : ◌≡◌ {A = ℕ} 0 1 = cc in omega arith)

-- a reading without the field
abbrev pub without_field : Reading → ReadingBefore
without_field (Accepts p) = AcceptsBefore p
without_field (Refuses c) = RefusesBefore c.number c.line

pub before_same : (s : List ℕ) → without_field (reading s) ≡ reading_before s
unfolding reading_by reading_before
before_same s =
    rw (← verdict_same start 1 (pieces lf s)) (go (judge rules start 1 (pieces lf s)) (items_same start 1 (pieces lf s)))
  where
    go :
        (v : Verdict) → (v ≡ Faultless → items_in (pieces lf s) ≡ items_before (pieces lf s)) →
        without_field (answer v (plan_of (items_in (pieces lf s)))) ≡ answer_before (verdict_without v) (plan_of (items_before (pieces lf s)))
    go Faultless h = ap (λ is. AcceptsBefore (plan_of is)) (h refl)
    go (FirstBad c) h = refl
