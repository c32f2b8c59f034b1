-- The kind that code finds, by tabs and keys, is the kind of the line.
use Rattle.std.specs.Prelude.{ℕ, zero, suc, pred, ◌<◌, ◌≡◌, refl, List, [], ◌∷◌, Bool, true, false, cond, ◌&&◌, eqb, ltb, length, Option, Some, None}
use Rattle.std.proofs.Common.{ap, ◌∙◌, arith, eqb-true, ltb-true}
use Rattle.std.proofs.Math.Bool.{and-false, and-true}
use Rattle.std.proofs.lemmas.Bool.{eqb-false}
use Rattle.laws.specs.BoolLaws.{both_left, both_right}
use Rattle.laws.specs.Bytes.{pieces, same}
use Rattle.laws.specs.Fields.{before, after, count, field, fields_to}
use Rattle.laws.specs.Steps.{pieces_fields}
use Rattle.plan.specs.Limits.{tab}
use Rattle.plan.specs.declared.Kind.{Kind}
use Rattle.plan.specs.Line.{Form, Word, Num, shape, kinds, has_shape, kind_in}
use Rattle.text_words.specs.Keys.{key_of, first_of, kind_at, line_kind, table_kind, sheet_kind, event_kind}
use Rattle.text_words.specs.KeyLaws.{small, proper, small_before, small_after, same_key}

-- are the words of a shape at their places, by their keys?
unfoldable keyed : List Form → List ℕ → Bool
keyed [] s = true
keyed (Word w ∷ ps) s = eqb (key_of (before tab s)) (key_of w) && keyed ps (after tab s)
keyed (Num ∷ ps) s = keyed ps (after tab s)

-- each word of a shape has a key
unfoldable keys : List Form → Bool
keys [] = true
keys (Word w ∷ ps) = proper w && keys ps
keys (Num ∷ ps) = keys ps

has_word : (w s : List ℕ) (ps : List Form) → small s ≡ true → (proper w && keys ps) ≡ true → same (before tab s) w ≡ eqb (key_of (before tab s)) (key_of w)
has_word w s ps h k = same_key (before tab s) w (small_before tab s h) (both_left (proper w) (keys ps) k)

-- fields of as many forms have the shape by their words alone
has_fields :
    (ps : List Form) (n : ℕ) (s : List ℕ) → small s ≡ true → keys ps ≡ true → length ps ≡ suc n → has_shape ps (fields_to tab n s) ≡ keyed ps s
unfolding has_shape keyed keys fields_to
has_fields [] n s h k l = absurd (omega arith)
has_fields (Word w ∷ []) zero s h k l = rw (has_word w s [] h k)
has_fields (Num ∷ []) zero s h k l = refl
has_fields (p ∷ q ∷ ps) zero s h k l = absurd (omega arith)
has_fields (Word w ∷ ps) (suc n) s h k l =
    rw (has_word w s ps h k, has_fields ps n (after tab s) (small_after tab s h) (both_right (proper w) (keys ps) k) (omega arith))
has_fields (Num ∷ ps) (suc n) s h k l = has_fields ps n (after tab s) (small_after tab s h) k (omega arith)

-- fields of another number never have it
has_not : (ps : List Form) (n : ℕ) (s : List ℕ) → (length ps ≡ suc n → ⊥) → has_shape ps (fields_to tab n s) ≡ false
unfolding has_shape fields_to
has_not [] zero s h = refl
has_not [] (suc n) s h = refl
has_not (Word w ∷ []) zero s h = absurd (h refl)
has_not (Num ∷ []) zero s h = absurd (h refl)
has_not (Word w ∷ q ∷ ps) zero s h = and-false (same (before tab s) w)
has_not (Num ∷ q ∷ ps) zero s h = refl
has_not (Word w ∷ ps) (suc n) s h =
    ap (λ b. same (before tab s) w && b) (has_not ps n (after tab s) (λ e. h (ap suc e))) ∙ and-false (same (before tab s) w)
has_not (Num ∷ ps) (suc n) s h = has_not ps n (after tab s) (λ e. h (ap suc e))

-- a shape that code can test
abbrev plain : List Form → Bool
plain ps = ltb 0 (length ps) && keys ps

has_tabs :
    (ps : List Form) (l : List ℕ) → small l ≡ true → plain ps ≡ true → has_shape ps (pieces tab l) ≡ (eqb (count tab l) (pred (length ps)) && keyed ps l)
has_tabs ps l h k = rw (pieces_fields tab l) (go (eqb (count tab l) (pred (length ps))) refl)
  where
    some : 0 < length ps
    some = ltb-true 0 (length ps) (both_left (ltb 0 (length ps)) (keys ps) k)

    go : (b : Bool) → eqb (count tab l) (pred (length ps)) ≡ b → has_shape ps (fields_to tab (count tab l) l) ≡ (b && keyed ps l)
    go true e =
        has_fields ps (count tab l) l h (both_right (ltb 0 (length ps)) (keys ps) k) (omega (arith, some, eqb-true (count tab l) (pred (length ps)) e))
    go false e = has_not ps (count tab l) l (λ q. eqb-false (count tab l) (pred (length ps)) e (omega (arith, q)))

unfoldable all_plain : List Kind → Bool
all_plain [] = true
all_plain (k ∷ ks) = plain (shape k) && all_plain ks

unfoldable kind_by : List Kind → List ℕ → Option Kind
kind_by [] l = None
kind_by (k ∷ ks) l = first_of (eqb (count tab l) (pred (length (shape k))) && keyed (shape k) l) k (kind_by ks l)

cond_first : (b : Bool) (k : Kind) (rest : Option Kind) → cond b (Some k) rest ≡ first_of b k rest
unfolding first_of
cond_first true k rest = refl
cond_first false k rest = refl

kind_line : (ks : List Kind) (l : List ℕ) → small l ≡ true → all_plain ks ≡ true → kind_in ks (pieces tab l) ≡ kind_by ks l
unfolding kind_in kind_by all_plain
kind_line [] l h a = refl
kind_line (k ∷ ks) l h a =
    rw (has_tabs (shape k) l h (both_left (plain (shape k)) (all_plain ks) a), kind_line ks l h (both_right (plain (shape k)) (all_plain ks) a), cond_first)

all_plain_law : all_plain kinds ≡ true
unfolding all_plain shape keys small
all_plain_law = refl

-- one kind tried, and the rest
pub first_then : (b : Bool) (k : Kind) {rest more r : Option Kind} → r ≡ first_of b k rest → rest ≡ more → r ≡ first_of b k more
first_then b k e f = e ∙ ap (first_of b k) f

-- THE KIND, of a line of bytes
pub kind_code : (l : List ℕ) → small l ≡ true → kind_in kinds (pieces tab l) ≡ kind_at (count tab l) (field tab 0 l) (field tab 1 l) (field tab 2 l)
unfolding kind_by shape keyed field line_kind table_kind sheet_kind event_kind
kind_code l h = kind_line kinds l h all_plain_law ∙ simp and-true
