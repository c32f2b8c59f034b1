-- A line says an item exactly when it is the item's line.
use Rattle.std.specs.Prelude.{ℕ, ◌+◌, ◌<◌, ◌≤◌, ◌≡◌, refl, Bool, true, false, cond, ◌&&◌, ltb, Option, Some, None}
use Rattle.std.proofs.Common.{ap, sym, ◌∙◌, arith, ltb-true, lt-ltb}
use mathlib.Core.List.{List, [], ◌∷◌, tail}
use Rattle.laws.specs.BoolLaws.{both_left, both_right, both}
use Rattle.laws.specs.Bytes.{pieces, joined, above, same, is_nil}
use Rattle.laws.specs.BytesLaws.{same_equal, lacks, each_lacks, pieces_joined, joined_pieces, above_lacks, joined_lacks}
use Rattle.laws.specs.Sums.{all}
use Rattle.laws.specs.Decimal.{value, decimal}
use Rattle.laws.proofs.DecimalLaws.{value_decimal, decimal_value, above_decimal}
use Rattle.plan.specs.Limits.{max_digits, tab, lf}
use Rattle.plan.specs.Line.{Kind, Form, Word, Num, Item, shape, kinds, bad, head_or, has_shape, number_at, numbers, fields_of, kind_in, item_from, item_of, line_of, written}
use Rattle.plan.specs.KindLaws.{each_kind, all_kind}

-- a number that is written as it should be is the field's value, wherever the field stands
number_good : (k : ℕ) (f : List ℕ) → number_at k f < bad → (number_at k f ≡ value max_digits f) × (value max_digits f < bad)
unfolding number_at
number_good k f h = go (ltb (value max_digits f) bad) refl h
  where
    go : (t : Bool) → ltb (value max_digits f) bad ≡ t → cond t (value max_digits f) (bad + k) < bad → (cond t (value max_digits f) (bad + k) ≡ value max_digits f) × (value max_digits f < bad)
    go true e h = (refl, ltb-true _ _ e)
    go false e h = absurd (omega arith)

number_value : (k : ℕ) (f : List ℕ) → value max_digits f < bad → number_at k f ≡ value max_digits f
unfolding number_at
number_value k f h = rw (lt-ltb (value max_digits f) bad h)

-- fields that have a shape, and whose numbers are written, are those of the numbers that they say
pub fields_numbers : (k : ℕ) (ps : List Form) (fs : List (List ℕ)) → has_shape ps fs ≡ true → written ps (numbers k ps fs) ≡ true → fs ≡ fields_of ps (numbers k ps fs)
unfolding has_shape number_at numbers fields_of written
fields_numbers k [] [] h w = refl
fields_numbers k [] (f ∷ fs) h w = absurd (let z : ◌≡◌ {A = ℕ} 0 1 = cc in omega arith)
fields_numbers k (Word v ∷ ps) [] h w = absurd (let z : ◌≡◌ {A = ℕ} 0 1 = cc in omega arith)
fields_numbers k (Num ∷ ps) [] h w = absurd (let z : ◌≡◌ {A = ℕ} 0 1 = cc in omega arith)
fields_numbers k (Word v ∷ ps) (f ∷ fs) h w =
    cc (same_equal f v (both_left (same f v) (has_shape ps fs) h), fields_numbers (k + 1) ps fs (both_right (same f v) (has_shape ps fs) h) w)
fields_numbers k (Num ∷ ps) (f ∷ fs) h w =
    let n : ℕ = number_at k f in
    let ns : List ℕ = numbers (k + 1) ps fs in
    let g = number_good k f (ltb-true n bad (both_left (ltb n bad) (written ps ns) w)) in
    cc (decimal_value max_digits f g.1, g.0, fields_numbers (k + 1) ps fs h (both_right (ltb n bad) (written ps ns) w))

-- and the numbers come back
pub numbers_fields : (k : ℕ) (ps : List Form) (ns : List ℕ) → written ps ns ≡ true → numbers k ps (fields_of ps ns) ≡ ns
unfolding numbers fields_of written
numbers_fields k [] [] w = refl
numbers_fields k [] (n ∷ ns) w = absurd (let z : ◌≡◌ {A = ℕ} 0 1 = cc in omega arith)
numbers_fields k (Word v ∷ ps) ns w = numbers_fields (k + 1) ps ns w
numbers_fields k (Num ∷ ps) [] w = absurd (let z : ◌≡◌ {A = ℕ} 0 1 = cc in omega arith)
numbers_fields k (Num ∷ ps) (n ∷ ns) w =
    let l : n < bad = ltb-true n bad (both_left (ltb n bad) (written ps ns) w) in
    let e : value max_digits (decimal n) ≡ n = value_decimal max_digits n (omega arith) l in
    cc (number_value k (decimal n) (rw e l), e, numbers_fields (k + 1) ps ns (both_right (ltb n bad) (written ps ns) w))

-- every kind is told by its shape alone
pub kind_fields : (k : Kind) (ns : List ℕ) → kind_in kinds (fields_of (shape k) ns) ≡ Some k
unfolding kind_in fields_of shape has_shape same
kind_fields k ns = each_kind (λ k. kind_in kinds (fields_of (shape k) ns) ≡ Some k)
    (refl, (refl, (refl, (refl, (refl, (refl, (refl, (refl, (refl, (refl, (refl, (refl, (refl, (refl, (refl, (refl, (refl, (refl, (refl, tt)))))))))))))))))))
    k

-- a kind that was found has its shape
pub kind_has : (ks : List Kind) (fs : List (List ℕ)) (k : Kind) → kind_in ks fs ≡ Some k → has_shape (shape k) fs ≡ true
unfolding kind_in
kind_has [] fs k h = absurd (let z : ◌≡◌ {A = ℕ} 0 1 = cc in omega arith)
kind_has (j ∷ ks) fs k h = go (has_shape (shape j) fs) refl h (kind_has ks fs k)
  where
    go :
        (t : Bool) → has_shape (shape j) fs ≡ t → cond t (Some j) (kind_in ks fs) ≡ Some k → (kind_in ks fs ≡ Some k → has_shape (shape k) fs ≡ true) →
        has_shape (shape k) fs ≡ true
    go true e h ih = let q : j ≡ k = cc in rw q at e
    go false e h ih = ih h

-- neither tab nor LF in a shape's words
unfoldable plain_words : List Form → Bool
plain_words [] = true
plain_words (Word w ∷ ps) = above lf w && plain_words ps
plain_words (Num ∷ ps) = plain_words ps

plain_shape : (k : Kind) → plain_words (shape k) ≡ true
unfolding plain_words shape above all
plain_shape = all_kind (λ k. plain_words (shape k)) refl

-- neither tab nor LF in a field
fields_lack : (b : ℕ) (ps : List Form) (ns : List ℕ) → b ≤ lf → plain_words ps ≡ true → each_lacks b (fields_of ps ns) ≡ true
unfolding fields_of each_lacks plain_words
fields_lack b [] ns g h = refl
fields_lack b (Word w ∷ ps) ns g h =
    both (lacks b w) (each_lacks b (fields_of ps ns)) (above_lacks lf b w g (both_left (above lf w) (plain_words ps) h))
    (fields_lack b ps ns g (both_right (above lf w) (plain_words ps) h))
fields_lack b (Num ∷ ps) ns g h =
    both (lacks b (decimal (head_or ns))) (each_lacks b (fields_of ps (tail ns))) (above_lacks lf b (decimal (head_or ns)) g (above_decimal lf (head_or ns) (omega arith)))
    (fields_lack b ps (tail ns) g h)

kind_some : (fs : List (List ℕ)) (k : Kind) → kind_in kinds fs ≡ Some k → is_nil fs ≡ false
unfolding kind_in shape has_shape
kind_some [] k h = absurd (let z : ◌≡◌ {A = ℕ} 0 1 = cc in omega arith)
kind_some (f ∷ fs) k h = refl

-- cutting an item's line gives its fields
pub line_fields : (i : Item) → pieces tab (line_of i) ≡ fields_of (shape i.kind) i.nums
unfolding line_of
line_fields i =
    pieces_joined tab (fields_of (shape i.kind) i.nums) (kind_some _ i.kind (kind_fields i.kind i.nums))
    (fields_lack tab (shape i.kind) i.nums (omega arith) (plain_shape i.kind))

-- no LF in an item's line
pub line_lacks : (i : Item) → lacks lf (line_of i) ≡ true
unfolding line_of
line_lacks i = joined_lacks tab lf (fields_of (shape i.kind) i.nums) refl (fields_lack lf (shape i.kind) i.nums (omega arith) (plain_shape i.kind))

-- an item's line says the item
pub item_line : (i : Item) → written (shape i.kind) i.nums ≡ true → item_of (line_of i) ≡ Some i
unfolding item_of
item_line i h = rw (line_fields i, kind_fields i.kind i.nums, numbers_fields 1 (shape i.kind) i.nums h)

-- a line that says an item is the item's line
pub line_item : (l : List ℕ) (i : Item) → item_of l ≡ Some i → written (shape i.kind) i.nums ≡ true → l ≡ line_of i
unfolding item_of line_of
line_item l i h = go (kind_in kinds (pieces tab l)) refl h
  where
    go :
        (o : Option Kind) → kind_in kinds (pieces tab l) ≡ o → item_from (pieces tab l) o ≡ Some i → written (shape i.kind) i.nums ≡ true →
        l ≡ joined tab (fields_of (shape i.kind) i.nums)
    go None e q = absurd (let z : ◌≡◌ {A = ℕ} 0 1 = cc in omega arith)
    go (Some k) e q =
        let j : record { kind = k; nums = numbers 1 (shape k) (pieces tab l) } ≡ i = cc in
        rw (← j) (λ w. sym (joined_pieces tab l) ∙ ap (joined tab) (fields_numbers 1 (shape k) (pieces tab l) (kind_has kinds (pieces tab l) k e) w))
