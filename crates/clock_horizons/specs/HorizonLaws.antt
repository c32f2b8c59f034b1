-- The line `horizon h` as code reads it: by its LF, its tab, its word and its number.
use Rattle.std.specs.Prelude.{ℕ, ◌+◌, ◌-◌, ◌≤◌, ◌<◌, ◌≡◌, List, [], ◌∷◌, Bool, cond, ltb, length, take, drop}
use Rattle.std.proofs.Math.Path.{refl, ap}
use Rattle.std.proofs.Common.{◌∙◌, true≢false, arith, drop_of_length-le}
use Rattle.std.proofs.Math.Bool.{true, false, and-false, and-true}
use Rattle.std.proofs.Math.Dec.{eqb}
use Rattle.std.proofs.Math.ListN.{length-drop}
use borrow.Author.Tests.{lt-ltb, le-ltb, eqb-true, eqb-false}
use Rattle.laws.specs.Bytes.{on_first, pieces, same, is_nil}
use Rattle.laws.specs.BytesLaws.{pieces_some}
use Rattle.laws.specs.Fields.{before}
use Rattle.laws.specs.Steps.{before_le, before_whole, head_part, drop_part, pieces_cut, pieces_uncut}
use Rattle.plan.specs.Limits.{tab, lf}
use Rattle.plan.specs.declared.Refusal.TheVariants.{Shape, Number, Range}
use Rattle.plan.specs.Line.{bad, has_shape, number_at, numbers, written}
use Rattle.clock_rules.specs.Clock.{is_horizon}
use Rattle.clock_rules.specs.Trace.{Until, Refuse, w_horizon, horizon_of, horizon_in, one_line, horizon_from}

-- BY THE FIRST b, at n

module _ (b : ℕ) (s : List ℕ) (n : ℕ) (e : n ≡ length (before b s)) where
  pub one_piece : n ≡ length s → pieces b s ≡ s ∷ []
  one_piece h =
      let l : length s ≤ length (before b s) = omega arith in
      pieces_uncut b s l ∙ ap (λ p. p ∷ []) (before_whole b s l)

  pub cut_within : (n ≡ length s → ⊥) → n + 1 ≤ length s
  cut_within h = omega (arith, before_le b s)

  pub more_pieces : (n ≡ length s → ⊥) → pieces b s ≡ take n s ∷ pieces b (drop (n + 1) s)
  more_pieces h = pieces_cut b s (omega (arith, cut_within h)) ∙ rw (head_part b s n e, drop_part b s n e)

-- ITS FIELDS

-- one field
field_one : (f : List ℕ) → horizon_in (f ∷ []) ≡ Refuse Shape
unfolding has_shape
field_one f = rw (and-false (same f w_horizon))

-- three or more
field_more : (f g : List ℕ) (fs : List (List ℕ)) → is_nil fs ≡ false → horizon_in (f ∷ g ∷ fs) ≡ Refuse Shape
unfolding has_shape
field_more f g [] h = absurd (true≢false h)
field_more f g (k ∷ fs) h = rw (and-false (same f w_horizon))

-- two
pub horizon_said : (f g : List ℕ) {v : ℕ} → true ≡ same f w_horizon → v ≡ number_at 2 g → horizon_in (f ∷ g ∷ []) ≡ horizon_of v (ltb v bad)
unfolding has_shape numbers written
horizon_said f g h e = rw (← h, ← e, and-true)

pub horizon_other : (f g : List ℕ) → false ≡ same f w_horizon → horizon_in (f ∷ g ∷ []) ≡ Refuse Shape
unfolding has_shape
horizon_other f g h = rw (← h)

module _ (l : List ℕ) (n : ℕ) (e : n ≡ length (before tab l)) where
  pub line_one : n ≡ length l → horizon_in (pieces tab l) ≡ Refuse Shape
  line_one h = ap horizon_in (one_piece tab l n e h) ∙ field_one l

  module _ (h : n ≡ length l → ⊥) (g : List ℕ) (q : g ≡ drop (n + 1) l) (m : ℕ) (i : m ≡ length (before tab g)) where
    first_of : pieces tab l ≡ take n l ∷ pieces tab g
    first_of = more_pieces tab l n e h ∙ rw q

    pub line_two : m ≡ length g → horizon_in (pieces tab l) ≡ horizon_in (take n l ∷ g ∷ [])
    line_two k = ap horizon_in (first_of ∙ ap (λ p. take n l ∷ p) (one_piece tab g m i k))

    pub line_more : (m ≡ length g → ⊥) → horizon_in (pieces tab l) ≡ Refuse Shape
    line_more k =
        ap horizon_in (first_of ∙ ap (λ p. take n l ∷ p) (more_pieces tab g m i k))
        ∙ field_more (take n l) (take m g) (pieces tab (drop (m + 1) g)) (pieces_some tab (drop (m + 1) g))

-- ITS NUMBER

module _ (v : ℕ) where
  pub number_bad : bad ≤ v → horizon_of v (ltb v bad) ≡ Refuse Number
  number_bad h = rw (le-ltb v bad h)

  pub number_in : v < bad → is_horizon v ≡ true → horizon_of v (ltb v bad) ≡ Until v
  number_in h e = rw (lt-ltb v bad h, e)

  pub number_out : v < bad → is_horizon v ≡ false → horizon_of v (ltb v bad) ≡ Refuse Range
  number_out h e = rw (lt-ltb v bad h, e)

-- ITS LF

-- bytes behind it
lf_more : (l : List ℕ) (x : ℕ) (r : List ℕ) → one_line (l ∷ pieces lf (x ∷ r)) ≡ Refuse Shape
unfolding pieces
lf_more l x r = go (eqb x lf) (pieces lf r) (pieces_some lf r)
  where
    go : (q : Bool) (ls : List (List ℕ)) → is_nil ls ≡ false → one_line (l ∷ cond q ([] ∷ ls) (on_first x ls)) ≡ Refuse Shape
    go true [] h = absurd (true≢false h)
    go true (m ∷ ls) h = refl
    go false [] h = refl
    go false (m ∷ ls) h = refl

lf_some : (l r : List ℕ) → 0 < length r → one_line (l ∷ pieces lf r) ≡ Refuse Shape
lf_some l [] h = absurd (omega arith)
lf_some l (x ∷ r) h = lf_more l x r

-- none
lf_none : (l : List ℕ) → one_line (l ∷ pieces lf []) ≡ horizon_in (pieces tab l)
unfolding pieces
lf_none l = refl

module _ (s : List ℕ) (n : ℕ) (e : n ≡ length (before lf s)) where
  pub lf_within : n ≤ length s
  lf_within = omega (arith, before_le lf s)

  -- from the first LF on: that LF only
  pub text_one : length s - n ≡ 1 → horizon_from s ≡ horizon_in (pieces tab (take n s))
  unfolding horizon_from
  text_one h =
      ap one_line (more_pieces lf s n e (λ k. omega arith))
      ∙ ap (λ r. one_line (take n s ∷ pieces lf r)) (drop_of_length-le s {i = n + 1} (omega arith))
      ∙ lf_none (take n s)

  -- no LF, or bytes behind it
  pub text_other : (length s - n ≡ 1 → ⊥) → horizon_from s ≡ Refuse Shape
  unfolding horizon_from
  text_other h = go (eqb n (length s)) refl
    where
      go : (q : Bool) → eqb n (length s) ≡ q → one_line (pieces lf s) ≡ Refuse Shape
      go true f = ap one_line (one_piece lf s n e (eqb-true n (length s) f))
      go false f =
          let k = eqb-false n (length s) f in
          let l = cut_within lf s n e k in
          ap one_line (more_pieces lf s n e k) ∙ lf_some (take n s) (drop (n + 1) s) (rw length-drop (omega arith))
