-- What is said is the line's item; and what code reads, field by field, is what is said.
use Rattle.std.specs.Prelude.{ℕ, zero, suc, pred, ◌+◌, ◌≡◌, refl, List, [], ◌∷◌, true, length, Option, Some, None}
use Rattle.std.proofs.Common.{ap, ◌∙◌, arith}
use Rattle.laws.specs.BoolLaws.{both_right}
use Rattle.laws.specs.Bytes.{pieces, same}
use Rattle.laws.specs.Choice.{when}
use Rattle.laws.specs.Fields.{before, after, count, field, fields_to}
use Rattle.laws.specs.Steps.{pieces_fields, pieces_length}
use Rattle.plan.specs.Limits.{tab}
use Rattle.plan.specs.declared.Kind.{Kind}
use Rattle.plan.specs.declared.Kind.TheVariants.{PlanLine, PolicyPO, PolicyPN, PolicyDO, PolicyDN, VcpuLine, MutexG, MutexL, OpenLine, GuestLine, TaskLine, RunLine, LockLine, EndLine, AskLine, FreeLine, UseLine, TopLine, ShowLine}
use Rattle.plan.specs.Line.{Form, Word, Num, Item, shape, kinds, has_shape, number_at, numbers, kind_in, item_from, item_of}
use Rattle.plan.specs.Rules.{nth}
use Rattle.text_lines.specs.Said.{numbers_in, said_as, said_of, said_item, item_said}
use Rattle.plan.specs.Line.{size, nums_of}
use Rattle.plan.specs.LineLaws.{kind_has}
use Rattle.text_lines.specs.Code.{size_in, pick_of, place_of, said_by}

pub has_length : (ps : List Form) (fs : List (List ℕ)) → has_shape ps fs ≡ true → length ps ≡ length fs
unfolding has_shape
has_length [] [] h = refl
has_length [] (f ∷ fs) h = absurd (let z : ◌≡◌ {A = ℕ} 0 1 = cc in omega arith)
has_length (p ∷ ps) [] h = absurd (let z : ◌≡◌ {A = ℕ} 0 1 = cc in omega arith)
has_length (Word w ∷ ps) (f ∷ fs) h = ap suc (has_length ps fs (both_right (same f w) (has_shape ps fs) h))
has_length (Num ∷ ps) (f ∷ fs) h = ap suc (has_length ps fs h)

-- the numbers of a shape, field by field
unfoldable numbers_by : ℕ → List Form → List ℕ → List ℕ
numbers_by k [] s = []
numbers_by k (Word w ∷ ps) s = numbers_by (k + 1) ps (after tab s)
numbers_by k (Num ∷ ps) s = number_at k (before tab s) ∷ numbers_by (k + 1) ps (after tab s)

numbers_fields : (k : ℕ) (ps : List Form) (n : ℕ) (s : List ℕ) → length ps ≡ suc n → numbers k ps (fields_to tab n s) ≡ numbers_by k ps s
unfolding numbers numbers_by fields_to
numbers_fields k [] n s h = absurd (omega arith)
numbers_fields k (Word w ∷ []) zero s h = refl
numbers_fields k (Num ∷ []) zero s h = refl
numbers_fields k (p ∷ q ∷ ps) zero s h = absurd (omega arith)
numbers_fields k (Word w ∷ ps) (suc n) s h = numbers_fields (k + 1) ps n (after tab s) (omega arith)
numbers_fields k (Num ∷ ps) (suc n) s h = ap (λ r. number_at k (before tab s) ∷ r) (numbers_fields (k + 1) ps n (after tab s) (omega arith))

abbrev as_nums : Kind → List ℕ → List ℕ
as_nums k ns = nums_of k (nth 0 ns) (nth 1 ns) (nth 2 ns) (nth 3 ns) (nth 4 ns)

-- FOR EACH KIND: what code reads of its fields; its numbers are as many of five
abbrev Read : Kind → Type 0
Read k =
    (l : List ℕ) →
    (said_as (Some k) (numbers_by 1 (shape k) l)
    ≡ said_by (pred (length (shape k))) (size (shape k)) (Some k) (field tab 1 l) (field tab 2 l) (field tab 3 l) (field tab 4 l) (field tab 5 l))
    × (numbers_by 1 (shape k) l ≡ as_nums k (numbers_by 1 (shape k) l))

read_kind : (k : Kind) → Read k
unfolding shape size nums_of numbers_by said_by pick_of place_of when field
read_kind k =
    elim k as (λ k. Read k) [
      | PlanLine ↦ λ l. (refl, refl)
      | PolicyPO ↦ λ l. (refl, refl)
      | PolicyPN ↦ λ l. (refl, refl)
      | PolicyDO ↦ λ l. (refl, refl)
      | PolicyDN ↦ λ l. (refl, refl)
      | VcpuLine ↦ λ l. (refl, refl)
      | MutexG ↦ λ l. (refl, refl)
      | MutexL ↦ λ l. (refl, refl)
      | OpenLine ↦ λ l. (refl, refl)
      | GuestLine ↦ λ l. (refl, refl)
      | TaskLine ↦ λ l. (refl, refl)
      | RunLine ↦ λ l. (refl, refl)
      | LockLine ↦ λ l. (refl, refl)
      | EndLine ↦ λ l. (refl, refl)
      | AskLine ↦ λ l. (refl, refl)
      | FreeLine ↦ λ l. (refl, refl)
      | UseLine ↦ λ l. (refl, refl)
      | TopLine ↦ λ l. (refl, refl)
      | ShowLine ↦ λ l. (refl, refl)
    ]

-- a line of a kind: its tabs, and its numbers
module _ (l : List ℕ) (k : Kind) (h : kind_in kinds (pieces tab l) ≡ Some k) where
  forms : length (shape k) ≡ suc (count tab l)
  forms = has_length (shape k) (pieces tab l) (kind_has kinds (pieces tab l) k h) ∙ pieces_length tab l

  line_numbers : numbers 1 (shape k) (pieces tab l) ≡ numbers_by 1 (shape k) l
  line_numbers = ap (numbers 1 (shape k)) (pieces_fields tab l) ∙ numbers_fields 1 (shape k) (count tab l) l forms

  -- the numbers of a line are as many of five as its kind has
  pub numbers_nums : numbers 1 (shape k) (pieces tab l) ≡ as_nums k (numbers 1 (shape k) (pieces tab l))
  numbers_nums = rw line_numbers (read_kind k l).1

  said_kind :
      said_as (Some k) (numbers 1 (shape k) (pieces tab l))
      ≡ said_by (count tab l) (size (shape k)) (Some k) (field tab 1 l) (field tab 2 l) (field tab 3 l) (field tab 4 l) (field tab 5 l)
  said_kind =
      let n : count tab l ≡ pred (length (shape k)) = omega (arith, forms) in
      rw (line_numbers, n) (read_kind k l).0

said_nothing : (c : ℕ) (x y z p q : List ℕ) → said_as None [] ≡ said_by c 0 None x y z p q
unfolding said_by when
said_nothing c x y z p q = refl

-- WHAT CODE READS is what is said
pub said_code :
    (l : List ℕ) →
    said_of l
    ≡ said_by (count tab l) (size_in (kind_in kinds (pieces tab l))) (kind_in kinds (pieces tab l)) (field tab 1 l) (field tab 2 l) (field tab 3 l) (field tab 4 l) (field tab 5 l)
unfolding said_of
said_code l = go (kind_in kinds (pieces tab l)) refl
  where
    go :
        (f : Option Kind) → kind_in kinds (pieces tab l) ≡ f →
        said_as f (numbers_in (pieces tab l) f) ≡ said_by (count tab l) (size_in f) f (field tab 1 l) (field tab 2 l) (field tab 3 l) (field tab 4 l) (field tab 5 l)
    go None e = said_nothing (count tab l) (field tab 1 l) (field tab 2 l) (field tab 3 l) (field tab 4 l) (field tab 5 l)
    go (Some k) e = said_kind l k e

-- WHAT IS SAID is the item, and the item is what is said
pub said_item_law : (l : List ℕ) → item_of l ≡ said_item (said_of l)
unfolding said_of item_of
said_item_law l = go (kind_in kinds (pieces tab l)) refl
  where
    go :
        (f : Option Kind) → kind_in kinds (pieces tab l) ≡ f → item_from (pieces tab l) f ≡ said_item (said_as f (numbers_in (pieces tab l) f))
    go None e = refl
    go (Some k) e = ap (λ ns. Some (record { kind = k; nums = ns })) (numbers_nums l k e)

pub item_said_law : (l : List ℕ) → said_of l ≡ item_said (item_of l)
unfolding said_of item_of
item_said_law l = go (kind_in kinds (pieces tab l))
  where
    go : (f : Option Kind) → said_as f (numbers_in (pieces tab l) f) ≡ item_said (item_from (pieces tab l) f)
    go None = refl
    go (Some k) = refl

pub item_is : (l : List ℕ) (i : Item) → item_of l ≡ Some i → said_of l ≡ said_as (Some i.kind) i.nums
item_is l i h = item_said_law l ∙ ap item_said h
