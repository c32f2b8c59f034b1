-- The reading of a byte string: accepted with its plan, or refused by the first bad line, the lowest number of that line and the field.
-- Every list of bytes has a reading: `pieces` gives at least one piece, and `judge` runs down the pieces.
use Rattle.std.specs.Prelude.{ℕ, ◌+◌, ◌≡◌, List, [], ◌∷◌, Bool, true, cond, ◌&&◌, eqb, Option, Some, None, Ok, Err}
use Rattle.laws.specs.Bytes.{pieces, is_nil}
use Rattle.plan.specs.Limits.{lf}
use Rattle.plan.specs.Refusals.{Complaint, complaint, Refusal, Shape, Number, Fault, unless}
use Rattle.plan.specs.Line.{Item, Kind, shape, written, item_of, head_or}
use Rattle.plan.specs.Plan.{Plan}
use Rattle.plan.specs.Lookup.{global}
use Rattle.plan.specs.Rules.{Known, start, follows, rule, learnt}
use Rattle.plan.specs.Fields.{field_of}
use Rattle.plan.specs.Gathered.{plan_of, items_in}

-- A JUDGE OF ITEMS, with what it has seen: may a line of a kind stand here, what else is wrong with it, for which field it is refused so, what is seen after it, may the plan stop here
pub record Judge : Type 1 where
  pub Seen : Type 0
  pub allowed : Seen → Kind → Bool
  pub judged : Seen → Item → Fault
  pub field : Seen → Item → Refusal → ℕ
  pub next : Seen → Item → Seen
  pub ready : Seen → Bool

-- the verdict on all lines: no fault, or the first bad line with its refusal
pub data Verdict : Type 0 where
  Faultless : Verdict
  FirstBad : Complaint → Verdict

module _ (J : Judge) where
  -- "in a line the lowest number": not a record allowed here (1), a number not written as it should be (2), what the judge says (3 to 7)
  unfoldable pub fault : J.Seen → Item → Fault
  fault t i = unless (J.allowed t i.kind) Shape (unless (written (shape i.kind) i.nums) Number (J.judged t i))

  abbrev pub fault_of : J.Seen → Option Item → Fault
  fault_of t None = Err Shape
  fault_of t (Some i) = fault t i

  abbrev pub next_of : J.Seen → Option Item → J.Seen
  next_of t None = t
  next_of t (Some i) = J.next t i

  -- what follows the last LF: nothing, and the plan may stop; else 1 at this line (no LF, bytes after `end`, or a line is due)
  abbrev pub finish : J.Seen → List ℕ → ℕ → Verdict
  finish t l n = cond (J.ready t && is_nil l) Faultless (FirstBad (complaint Shape n 0))

  -- the field of a refused line: 0 for one of no kind
  abbrev pub field_at : J.Seen → Option Item → Refusal → ℕ
  field_at t None r = 0
  field_at t (Some i) r = J.field t i r

  abbrev pub onward : J.Seen → Option Item → Fault → ℕ → Verdict → Verdict
  onward t o (Ok tt) n rest = rest
  onward t o (Err r) n rest = FirstBad (complaint r n (field_at t o r))

  -- "the first bad line from the top decides": the pieces between the LFs, from line n on; the last piece is what follows the last LF
  unfoldable pub judge : J.Seen → ℕ → List (List ℕ) → Verdict
  judge t n [] = FirstBad (complaint Shape n 0)
  judge t n (l ∷ ls) = cond (is_nil ls) (finish t l n) (onward t (item_of l) (fault_of t (item_of l)) n (judge (next_of t (item_of l)) (n + 1) ls))

  -- no item has a fault after those before it, and the plan may stop after them
  abbrev pub Passes : J.Seen → List Item → Type 0
  Passes t [] = J.ready t ≡ true
  Passes t (i ∷ is) = (fault t i ≡ Ok tt) × Passes (J.next t i) is

-- the judge of a plan's lines
abbrev pub rules : Judge
rules = record {
  Seen = Known;
  allowed = λ t k. follows t.phase k;
  judged = λ t i. rule t i.kind i.nums;
  field = λ t i r. field_of (global t.mutexes (head_or i.nums)) i.kind i.nums r;
  next = λ t i. learnt t i;
  ready = λ t. eqb t.phase 10;
}

-- THE READING
pub data Reading : Type 0 where
  Accepts : Plan → Reading
  Refuses : Complaint → Reading

abbrev pub answer : Verdict → Plan → Reading
answer Faultless p = Accepts p
answer (FirstBad c) p = Refuses c

unfoldable pub reading_by : (J : Judge) → J.Seen → List ℕ → Reading
reading_by J t s = answer (judge J t 1 (pieces lf s)) (plan_of (items_in (pieces lf s)))

-- what reading these bytes answers
abbrev pub reading : List ℕ → Reading
reading s = reading_by rules start s
