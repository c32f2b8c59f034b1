-- What code takes apart says the same: an answer and its text, and the texts' sizes.
use Rattle.std.specs.Prelude.{ℕ, ◌+◌, ◌≤◌, List, [], ◌∷◌, Bool, eqb, length}
use Rattle.std.proofs.Math.Path.{◌≡◌, refl}
use Rattle.std.proofs.Common.{ap, sym, ◌∙◌}
use Rattle.std.proofs.Math.Bool.{true, false}
use native.Mathlib.Omega.{arith}
use borrow.Author.Tests.{eq-eqb, ne_eqb}
use Rattle.laws.specs.Bytes.{joined}
use Rattle.std.specs.Prelude.{if◌then◌else◌}
use Rattle.laws.specs.Decimal.{decimal}
use Rattle.plan.specs.declared.Refusal.TheVariants.{Shape}
use Rattle.plan.specs.Line.{w_show}
use Rattle.listing.specs.Listing.{line, dash, w_refused}
use Rattle.text_letters.specs.Wrote.{Sized}
use Rattle.text_letters.specs.Tabbed.{rest}
use Rattle.listing_lines.specs.SizeLaws.{line_sized}
use Rattle.board_rules.specs.declared.Next.TheVariants.{Nobody, To}
use Rattle.board_rules.specs.declared.BoardAnswer.{BoardAnswer}
use Rattle.board_rules.specs.declared.BoardAnswer.TheVariants.{Granted, Waits, Freed, Left, Shows, Refused}
use Rattle.board_events.specs.Events.{w_granted, w_waits, w_freed, w_left, answer_fields}
use Rattle.log_replies.specs.Parts.{Parts, parts_of, plain_text, pair_word, parts_text, end_text}

-- THE TEXT OF AN ANSWER

-- the lines with no number, in bytes
pub plain_bytes : (w : ℕ) {p q : List ℕ} →
    p ≡ (if eqb w 1 then 119 ∷ 97 ∷ 105 ∷ 116 ∷ 115 ∷ 10 ∷ [] else 102 ∷ 114 ∷ 101 ∷ 101 ∷ 100 ∷ 9 ∷ 45 ∷ 9 ∷ 45 ∷ 10 ∷ []) →
    q ≡ (if eqb w 0 then 103 ∷ 114 ∷ 97 ∷ 110 ∷ 116 ∷ 101 ∷ 100 ∷ 10 ∷ [] else p) → plain_text w ≡ q
unfolding plain_text line joined
plain_bytes w e f = sym (f ∙ rw e)

-- the words of those with two
pub pair_bytes : (w : ℕ) {p q : List ℕ} → p ≡ (if eqb w 1 then w_left else w_show) → q ≡ (if eqb w 0 then w_freed else p) → pair_word w ≡ q
unfolding pair_word
pair_bytes w e f = sym (f ∙ rw e)

parts_answer : (a : BoardAnswer) → line (answer_fields a) ≡ parts_text (parts_of a).count (parts_of a).word (parts_of a).x (parts_of a).y
unfolding parts_text plain_text pair_word
parts_answer Granted = refl
parts_answer Waits = refl
parts_answer (Freed Nobody) = refl
parts_answer (Freed (To v n)) = refl
parts_answer (Left b o) = refl
parts_answer (Shows t v) = refl
parts_answer (Refused r) = refl

pub parts_text_law : (a : BoardAnswer) {p : Parts} → p ≡ parts_of a → line (answer_fields a) ≡ parts_text p.count p.word p.x p.y
parts_text_law a e = rw e (parts_answer a)

-- by the number of its numbers
module _ (c w x y : ℕ) where
  pub parts_none : c ≡ 0 → parts_text c w x y ≡ plain_text w
  unfolding parts_text
  parts_none e = simp (eq-eqb c 0 e)

  pub parts_one : (c ≡ 0 → ⊥) → c ≡ 1 → parts_text c w x y ≡ line (w_refused ∷ decimal x ∷ [])
  unfolding parts_text
  parts_one n e = simp (ne_eqb c 0 n, eq-eqb c 1 e)

  pub parts_two : (c ≡ 0 → ⊥) → (c ≡ 1 → ⊥) → parts_text c w x y ≡ line (pair_word w ∷ decimal x ∷ decimal y ∷ [])
  unfolding parts_text
  parts_two n e = simp (ne_eqb c 0 n, ne_eqb c 1 e)

-- SIZES

pub sized_le : {t : List ℕ} {b c r : ℕ} → b ≤ c → Sized t b r → Sized t c r
sized_le l s = record { is = s.is; small = let k = s.small in omega arith }

-- a line's first word by its size, and the rest
pub line_sized_by :
    (w : List ℕ) (fs : List (List ℕ)) {b c y z : ℕ} → Sized w b z → Sized (rest fs) c y → Sized (line (w ∷ fs)) (c + b) (y + z)
line_sized_by w fs p q =
    let s = line_sized w fs q in
    let e = s.is in let f = p.is in let g = p.small in let h = q.small in
    record { is = omega arith; small = omega arith }

plain_cases : (p q : Bool) → length (if p then line (w_granted ∷ []) else (if q then line (w_waits ∷ []) else line (w_freed ∷ dash ∷ dash ∷ []))) ≡ (if p then 8 else (if q then 6 else 10))
unfolding line joined
plain_cases true q = refl
plain_cases false true = refl
plain_cases false false = refl

module _ (w : ℕ) where
  pub granted_sized : w ≡ 0 → Sized (plain_text w) 10 8
  unfolding plain_text
  granted_sized e = record { is = simp (eq-eqb w 0 e) (sym (plain_cases true true)); small = omega arith }

  pub waits_sized : (w ≡ 0 → ⊥) → w ≡ 1 → Sized (plain_text w) 10 6
  unfolding plain_text
  waits_sized n e = record { is = simp (ne_eqb w 0 n, eq-eqb w 1 e) (sym (plain_cases false true)); small = omega arith }

  pub freed_sized : (w ≡ 0 → ⊥) → (w ≡ 1 → ⊥) → Sized (plain_text w) 10 10
  unfolding plain_text
  freed_sized n e = record { is = simp (ne_eqb w 0 n, ne_eqb w 1 e) (sym (plain_cases false false)); small = omega arith }

  pub five_sized : w ≡ 0 → Sized (pair_word w) 5 5
  unfolding pair_word
  five_sized e = record { is = simp (eq-eqb w 0 e); small = omega arith }

  pub four_sized : (w ≡ 0 → ⊥) → Sized (pair_word w) 5 4
  unfolding pair_word
  four_sized n = record { is = simp (ne_eqb w 0 n) (go (eqb w 1)); small = omega arith }
    where
      go : (q : Bool) → ◌≡◌ {A = ℕ} 4 (length (if q then w_left else w_show))
      go true = refl
      go false = refl

pub end_none : (k : ℕ) → k ≡ 0 → end_text k ≡ []
unfolding end_text
end_none k e = simp (eq-eqb k 0 e)

pub end_some : (k : ℕ) → (k ≡ 0 → ⊥) → (a : BoardAnswer) → a ≡ Refused Shape → end_text k ≡ line (answer_fields a)
unfolding end_text
end_some k n a e = simp (ne_eqb k 0 n) (ap (λ a. line (answer_fields a)) (sym e))
