-- WHAT READING ANSWERED BEFORE a refusal had its field: accepted, or number and line. These definitions serve the law that neither has changed (BeforeLaws), and nothing else.
use Rattle.std.specs.Prelude.{ℕ, ◌+◌, List, [], ◌∷◌, cond, ◌&&◌, Option, Some, None, Ok, Err}
use Rattle.plan.specs.declared.Kind.{Kind}
use Rattle.laws.specs.Bytes.{pieces, is_nil}
use Rattle.laws.specs.Decimal.{value}
use Rattle.plan.specs.Limits.{max_digits, tab, lf}
use Rattle.plan.specs.declared.Refusal.{Refusal}
use Rattle.plan.specs.declared.Refusal.TheVariants.{Shape}
use Rattle.plan.specs.Refusals.{Fault}
use Rattle.plan.specs.Line.{Form, Word, Num, Item, shape, kinds, kind_in}
use Rattle.plan.specs.Plan.{Plan}
use Rattle.plan.specs.Gathered.{plan_of, push}
use Rattle.plan.specs.Rules.{Known, start}
use Rattle.plan.specs.Reading.{rules, fault_of, next_of}

-- the numbers that fields of a shape say: one that was not written as it should be said no field
unfoldable pub numbers_before : List Form → List (List ℕ) → List ℕ
numbers_before [] fs = []
numbers_before (p ∷ ps) [] = []
numbers_before (Word w ∷ ps) (f ∷ fs) = numbers_before ps fs
numbers_before (Num ∷ ps) (f ∷ fs) = value max_digits f ∷ numbers_before ps fs

abbrev pub item_from_before : List (List ℕ) → Option Kind → Option Item
item_from_before fs None = None
item_from_before fs (Some k) = Some (record { kind = k; nums = numbers_before (shape k) fs })

unfoldable pub item_before : List ℕ → Option Item
item_before l = item_from_before (pieces tab l) (kind_in kinds (pieces tab l))

-- the verdict on all lines
pub data VerdictBefore : Type 0 where
  FaultlessBefore : VerdictBefore
  FirstBadBefore : Refusal → ℕ → VerdictBefore

abbrev pub finish_before : Known → List ℕ → ℕ → VerdictBefore
finish_before t l n = cond (rules.ready t && is_nil l) FaultlessBefore (FirstBadBefore Shape n)

abbrev pub onward_before : Fault → ℕ → VerdictBefore → VerdictBefore
onward_before (Ok tt) n rest = rest
onward_before (Err r) n rest = FirstBadBefore r n

unfoldable pub judge_before : Known → ℕ → List (List ℕ) → VerdictBefore
judge_before t n [] = FirstBadBefore Shape n
judge_before t n (l ∷ ls) =
    cond (is_nil ls) (finish_before t l n) (onward_before (fault_of rules t (item_before l)) n (judge_before (next_of rules t (item_before l)) (n + 1) ls))

-- the items of all lines but the last piece
unfoldable pub items_before : List (List ℕ) → List Item
items_before [] = []
items_before (l ∷ ls) = cond (is_nil ls) [] (push (item_before l) (items_before ls))

-- THE READING AS IT WAS
pub data ReadingBefore : Type 0 where
  AcceptsBefore : Plan → ReadingBefore
  RefusesBefore : Refusal → ℕ → ReadingBefore

abbrev pub answer_before : VerdictBefore → Plan → ReadingBefore
answer_before FaultlessBefore p = AcceptsBefore p
answer_before (FirstBadBefore r l) p = RefusesBefore r l

unfoldable pub reading_before : List ℕ → ReadingBefore
reading_before s = answer_before (judge_before start 1 (pieces lf s)) (plan_of (items_before (pieces lf s)))
