-- A text is faultless exactly when it is the text of items that pass: for any judge of items.
use Rattle.std.specs.Prelude.{ℕ, ◌+◌, ◌↔◌, Bool, ◌&&◌, Option, Some, None, Ok, Err}
use Rattle.std.proofs.Math.Path.{◌≡◌, refl}
use mathlib.Core.List.{List, [], ◌∷◌, ◌++◌}
use Rattle.std.proofs.Math.Bool.{true, false, cond}
use Rattle.std.proofs.lemmas.Bool.{false≢true}
use Rattle.std.proofs.Common.{arith}
use Rattle.laws.specs.BoolLaws.{both}
use Rattle.laws.specs.Bytes.{pieces, is_nil}
use Rattle.laws.specs.BytesLaws.{lacks, each_lacks, pieces_ended, ended_pieces}
use Rattle.plan.specs.Limits.{lf}
use Rattle.plan.specs.Refusals.{complaint, Refusal, Shape, Fault, unless}
use Rattle.plan.specs.Line.{Item, shape, written, item_of, line_of}
use Rattle.plan.specs.Text.{lines_of, text_of}
use Rattle.plan.specs.Reading.{Judge, Faultless, FirstBad, fault, fault_of, next_of, onward, judge, Passes}
use Rattle.plan.specs.Gathered.{push, items_in}
use Rattle.plan.specs.ListLaws.{append_some}
use Rattle.plan.specs.LineLaws.{item_line, line_item, line_lacks}

-- a chain of tests is clear exactly when its first test holds and the rest is clear
pub unless_clear : (b : Bool) (r : Refusal) (f : Fault) → (unless b r f ≡ Ok tt) ↔ ((b ≡ true) × (f ≡ Ok tt))
unfolding unless
unless_clear true r f = (λ h. (refl, h), λ h. h.1)
unless_clear false r f = (λ h. absurd (let z : ◌≡◌ {A = ℕ} 0 1 = cc in omega arith), λ h. absurd (false≢true h.0))

-- its first test, and the rest
pub clear_test : (b : Bool) (r : Refusal) (f : Fault) → unless b r f ≡ Ok tt → b ≡ true
clear_test b r f h = ((unless_clear b r f).0 h).0

pub clear_rest : (b : Bool) (r : Refusal) (f : Fault) → unless b r f ≡ Ok tt → f ≡ Ok tt
clear_rest b r f h = ((unless_clear b r f).0 h).1

pub lines_lack : (is : List Item) → each_lacks lf (lines_of is) ≡ true
unfolding lines_of each_lacks
lines_lack [] = refl
lines_lack (i ∷ is) = both (lacks lf (line_of i)) (each_lacks lf (lines_of is)) (line_lacks i) (lines_lack is)

nil_is : (l : List ℕ) → is_nil l ≡ true → l ≡ []
nil_is [] h = refl
nil_is (x ∷ l) h = absurd (let z : ◌≡◌ {A = ℕ} 0 1 = cc in omega arith)

module _ (J : Judge) where
  pub fault_allowed : (t : J.Seen) (i : Item) → fault J t i ≡ Ok tt → J.allowed t i.kind ≡ true
  unfolding fault
  fault_allowed t i h = clear_test _ _ _ h

  -- an item that is allowed here is clear exactly when its numbers are written and the judge says no more
  pub fault_clear : (t : J.Seen) (i : Item) → J.allowed t i.kind ≡ true → (fault J t i ≡ Ok tt) ↔ ((written (shape i.kind) i.nums ≡ true) × (J.judged t i ≡ Ok tt))
  unfolding fault
  fault_clear t i a = (λ h. (unless_clear _ _ _).0 ((unless_clear _ _ _).0 h).1, λ h. (unless_clear _ _ _).1 (a, (unless_clear _ _ _).1 h))

  pub fault_written : (t : J.Seen) (i : Item) → fault J t i ≡ Ok tt → written (shape i.kind) i.nums ≡ true
  fault_written t i h = ((fault_clear t i (fault_allowed t i h)).0 h).0

  -- lines of items that pass are faultless
  judge_lines : (t : J.Seen) (n : ℕ) (is : List Item) → Passes J t is → judge J t n (lines_of is ++ ([] ∷ [])) ≡ Faultless
  unfolding judge lines_of
  judge_lines t n [] h = simp h
  judge_lines t n (i ∷ is) h = simp (append_some (lines_of is) [] [], item_line i (fault_written t i h.0), h.0) (judge_lines (J.next t i) (n + 1) is h.1)

  items_lines : (t : J.Seen) (is : List Item) → Passes J t is → items_in (lines_of is ++ ([] ∷ [])) ≡ is
  unfolding items_in lines_of
  items_lines t [] h = refl
  items_lines t (i ∷ is) h = simp (append_some (lines_of is) [] [], item_line i (fault_written t i h.0), items_lines (J.next t i) is h.1)

  -- faultless lines are those of the items that they say, which pass
  lines_judged : (t : J.Seen) (n : ℕ) (ls : List (List ℕ)) → judge J t n ls ≡ Faultless → (ls ≡ lines_of (items_in ls) ++ ([] ∷ [])) × Passes J t (items_in ls)
  unfolding judge lines_of items_in
  lines_judged t n [] h = absurd (let z : ◌≡◌ {A = ℕ} 0 1 = cc in omega arith)
  lines_judged t n (l ∷ []) h = go (J.ready t) refl (is_nil l) refl h
    where
      go :
          (a : Bool) → J.ready t ≡ a → (b : Bool) → is_nil l ≡ b → cond (a && b) Faultless (FirstBad (complaint Shape n 0)) ≡ Faultless →
          (◌≡◌ {A = List (List ℕ)} (l ∷ []) ([] ∷ [])) × (J.ready t ≡ true)
      go true e true f h = (cc (nil_is l f), e)
      go true e false f h = absurd (let z : ◌≡◌ {A = ℕ} 0 1 = cc in omega arith)
      go false e b f h = absurd (let z : ◌≡◌ {A = ℕ} 0 1 = cc in omega arith)
  lines_judged t n (l ∷ m ∷ ls) h =
      go (item_of l) refl (fault_of J t (item_of l)) refl h (lines_judged (next_of J t (item_of l)) (n + 1) (m ∷ ls))
    where
      go :
          (o : Option Item) → item_of l ≡ o → (f : Fault) → fault_of J t o ≡ f →
          onward J t o f n (judge J (next_of J t o) (n + 1) (m ∷ ls)) ≡ Faultless →
          (judge J (next_of J t o) (n + 1) (m ∷ ls) ≡ Faultless → (m ∷ ls ≡ lines_of (items_in (m ∷ ls)) ++ ([] ∷ [])) × Passes J (next_of J t o) (items_in (m ∷ ls))) →
          (l ∷ m ∷ ls ≡ lines_of (push o (items_in (m ∷ ls))) ++ ([] ∷ [])) × Passes J t (push o (items_in (m ∷ ls)))
      go None e (Ok tt) f h ih = absurd (let z : ◌≡◌ {A = ℕ} 0 1 = cc in omega arith)
      go None e (Err r) f h ih = absurd (let z : ◌≡◌ {A = ℕ} 0 1 = cc in omega arith)
      go (Some i) e (Ok tt) f h ih =
          let q : l ≡ line_of i = line_item l i e (fault_written t i f) in
          let r : m ∷ ls ≡ lines_of (items_in (m ∷ ls)) ++ ([] ∷ []) = (ih h).0 in
          (cc, (f, (ih h).1))
      go (Some i) e (Err r) f h ih = absurd (let z : ◌≡◌ {A = ℕ} 0 1 = cc in omega arith)

  -- the text of items that pass is faultless, and says these items
  pub text_accepted : (t : J.Seen) (is : List Item) → Passes J t is → (judge J t 1 (pieces lf (text_of is)) ≡ Faultless) × (items_in (pieces lf (text_of is)) ≡ is)
  unfolding text_of
  text_accepted t is h = rw (pieces_ended lf (lines_of is) (lines_lack is)) (judge_lines t 1 is h, items_lines t is h)

  -- a faultless text is the text of the items that it says, and they pass
  pub accepted_text : (t : J.Seen) (s : List ℕ) → judge J t 1 (pieces lf s) ≡ Faultless → (s ≡ text_of (items_in (pieces lf s))) × Passes J t (items_in (pieces lf s))
  unfolding text_of
  accepted_text t s h =
      let r = lines_judged t 1 (pieces lf s) h in
      (ended_pieces lf s (lines_of (items_in (pieces lf s))) r.0, r.1)
