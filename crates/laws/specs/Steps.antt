-- Laws of a loop over a list of bytes: before the first byte, one byte more, where it stops, and at the end; and what it reads as pieces.
use Rattle.std.specs.Prelude.{ℕ, zero, suc, ◌+◌, ◌*◌, ◌-◌, ◌^◌, ◌≤◌, ◌<◌, ◌≡◌, List, [], ◌∷◌, Bool, true, false, cond, not, eqb, length, get_or, take, drop}
use Rattle.std.proofs.Math.Path.{refl}
use Rattle.std.proofs.Common.{ap, sym, ◌∙◌, pow-suc, add-one, arith, drop_of_length-le, length-drop, drop-cons, drop-drop, take_all, eq-eqb, ne_eqb, lt-ltb, le-ltb}
use Rattle.std.proofs.Math.Nat.{pow-le-pow_right}
use Rattle.laws.specs.Bytes.{on_first, pieces}
use Rattle.laws.specs.Decimal.{digit_of, scan, starts}
use Rattle.laws.specs.Fields.{before, after, count, fields_to, Cut, Tallied, Scanned}

-- one more byte of what is left
pub drop_next : (s : List ℕ) (i : ℕ) → i < length s → drop i s ≡ get_or s i 0 ∷ drop (i + 1) s
drop_next s i h = rw (add-one, drop-cons s i 0)

-- a part to the end is what is left
pub take_rest : (k : ℕ) (s : List ℕ) → take (length s - k) (drop k s) ≡ drop k s
take_rest k s = take_all (length s - k) (drop k s) (rw (length-drop k s) (omega arith))

-- ONE STEP

module _ (b : ℕ) (s : List ℕ) (i : ℕ) where
  pub before_stop : i < length s → get_or s i 0 ≡ b → before b (drop i s) ≡ []
  unfolding before
  before_stop h e = rw (drop_next s i h) (simp (eq-eqb _ _ e))

  pub before_more : i < length s → (get_or s i 0 ≡ b → ⊥) → before b (drop i s) ≡ get_or s i 0 ∷ before b (drop (i + 1) s)
  unfolding before
  before_more h e = rw (drop_next s i h) (simp (ne_eqb _ _ e))

  pub before_end : length s ≤ i → before b (drop i s) ≡ []
  unfolding before
  before_end h = rw (drop_of_length-le s h)

  pub count_more : i < length s → get_or s i 0 ≡ b → count b (drop i s) ≡ suc (count b (drop (i + 1) s))
  unfolding count
  count_more h e = rw (drop_next s i h) (simp (eq-eqb _ _ e))

  pub count_skip : i < length s → (get_or s i 0 ≡ b → ⊥) → count b (drop i s) ≡ count b (drop (i + 1) s)
  unfolding count
  count_skip h e = rw (drop_next s i h) (simp (ne_eqb _ _ e))

  pub count_end : length s ≤ i → count b (drop i s) ≡ 0
  unfolding count
  count_end h = rw (drop_of_length-le s h)

module _ (bad : ℕ) (s : List ℕ) (v i : ℕ) where
  pub scan_more : i < length s → digit_of (get_or s i 0) < 10 → scan bad v (drop i s) ≡ scan bad (v * 10 + digit_of (get_or s i 0)) (drop (i + 1) s)
  unfolding scan
  scan_more h d = rw (drop_next s i h) (simp (lt-ltb _ _ d))

  pub scan_stop : i < length s → 10 ≤ digit_of (get_or s i 0) → scan bad v (drop i s) ≡ bad
  unfolding scan
  scan_stop h d = rw (drop_next s i h) (simp (le-ltb _ _ d))

  pub scan_end : length s ≤ i → scan bad v (drop i s) ≡ v
  unfolding scan
  scan_end h = rw (drop_of_length-le s h)

-- THE LOOPS

module _ {b : ℕ} {s : List ℕ} where
  pub cut_none : Cut b s 0
  cut_none = record { within = omega arith; is = omega arith }

  pub cut_more : {i : ℕ} → Cut b s i → i < length s → (get_or s i 0 ≡ b → ⊥) → Cut b s (i + 1)
  cut_more {i} h l e = record { within = omega arith; is = omega (arith, ap length (before_more b s i l e)) }

  pub cut_stop : {i : ℕ} → Cut b s i → i < length s → get_or s i 0 ≡ b → i ≡ length (before b s)
  cut_stop {i} h l e = omega (arith, ap length (before_stop b s i l e))

  pub cut_end : {i : ℕ} → Cut b s i → length s ≤ i → i ≡ length (before b s)
  cut_end {i} h l = omega (arith, ap length (before_end b s i l))

  pub tallied_none : Tallied b s 0 0
  tallied_none = record { within = omega arith; small = omega arith; is = omega arith }

  -- the new number is r
  pub tallied_more : {n i r : ℕ} → Tallied b s n i → i < length s → get_or s i 0 ≡ b → r ≡ n + 1 → Tallied b s r (i + 1)
  tallied_more {i} h l e k = record { within = omega arith; small = omega arith; is = omega (arith, count_more b s i l e) }

  pub tallied_skip : {n i r : ℕ} → Tallied b s n i → i < length s → (get_or s i 0 ≡ b → ⊥) → r ≡ n → Tallied b s r (i + 1)
  tallied_skip {i} h l e k = record { within = omega arith; small = omega arith; is = omega (arith, count_skip b s i l e) }

  pub tallied_end : {n i : ℕ} → Tallied b s n i → length s ≤ i → n ≡ count b s
  tallied_end {i} h l = omega (arith, count_end b s i l)

module _ {bad : ℕ} {s : List ℕ} where
  pub scanned_none : Scanned bad s 0 0
  scanned_none = record { within = omega arith; small = omega arith; is = refl }

  -- the value of the byte at i is d
  pub scanned_more : {v i d : ℕ} → Scanned bad s v i → i < length s → d ≡ digit_of (get_or s i 0) → d < 10 → Scanned bad s (v * 10 + d) (i + 1)
  scanned_more {v} {i} {d} h l e k =
      record {
        within = omega arith;
        small = rw (add-one, pow-suc) (omega arith);
        is = h.is ∙ scan_more bad s v i l (rw e at k) ∙ ap (λ n. scan bad (v * 10 + n) (drop (i + 1) s)) (sym e);
      }

  pub scanned_stop : {v i d : ℕ} → Scanned bad s v i → i < length s → d ≡ digit_of (get_or s i 0) → 10 ≤ d → bad ≡ scan bad 0 s
  scanned_stop {v} {i} h l e k = sym (h.is ∙ scan_stop bad s v i l (rw e at k))

  pub scanned_end : {v i : ℕ} → Scanned bad s v i → length s ≤ i → v ≡ scan bad 0 s
  scanned_end {v} {i} h l = sym (h.is ∙ scan_end bad s v i l)

  -- room for one digit more, of w at most
  pub scanned_room : {v i : ℕ} (w : ℕ) → Scanned bad s v i → i < length s → length s ≤ w → v * 10 + 9 < 10 ^ w
  scanned_room {v} {i} w h l k =
      let p : 10 ^ suc i ≤ 10 ^ w = pow-le-pow_right (omega arith) (omega arith) in
      omega (arith, pow-suc 10 i)

-- THE CUT AS A PART OF THE LIST

pub before_le : (b : ℕ) (s : List ℕ) → length (before b s) ≤ length s
unfolding before
before_le b [] = omega arith
before_le b (x ∷ s) = go (eqb x b) (before_le b s)
  where
    go : (t : Bool) → length (before b s) ≤ length s → length (cond t [] (x ∷ before b s)) ≤ suc (length s)
    go true h = omega arith
    go false h = omega arith

pub take_before : (b : ℕ) (s : List ℕ) → take (length (before b s)) s ≡ before b s
unfolding before
take_before b [] = refl
take_before b (x ∷ s) = go (eqb x b) (take_before b s)
  where
    go : (t : Bool) → take (length (before b s)) s ≡ before b s → take (length (cond t [] (x ∷ before b s))) (x ∷ s) ≡ cond t [] (x ∷ before b s)
    go true h = refl
    go false h = ap (λ l. x ∷ l) h

pub drop_before : (b : ℕ) (s : List ℕ) → drop (suc (length (before b s))) s ≡ after b s
unfolding before after
drop_before b [] = refl
drop_before b (x ∷ s) = go (eqb x b) (drop_before b s)
  where
    go : (t : Bool) → drop (suc (length (before b s))) s ≡ after b s → drop (suc (length (cond t [] (x ∷ before b s)))) (x ∷ s) ≡ cond t s (after b s)
    go true h = refl
    go false h = h

-- where there is no b
pub before_whole : (b : ℕ) (s : List ℕ) → length s ≤ length (before b s) → before b s ≡ s
before_whole b s h = sym (take_before b s) ∙ take_all (length (before b s)) s h

-- what a cut at n says of the parts
module _ (b : ℕ) (s : List ℕ) (n : ℕ) (e : n ≡ length (before b s)) where
  pub head_part : take n s ≡ before b s
  head_part = rw e (take_before b s)

  pub head_count : n ≡ length (take n s)
  head_count = e ∙ ap length (sym head_part)

  pub drop_part : drop (n + 1) s ≡ after b s
  drop_part = ap (λ k. drop k s) (add-one n ∙ ap suc e) ∙ drop_before b s

-- THE PIECES, ONE BY ONE

pub pieces_cut : (b : ℕ) (s : List ℕ) → length (before b s) < length s → pieces b s ≡ before b s ∷ pieces b (after b s)
unfolding pieces before after
pieces_cut b [] h = absurd (omega arith)
pieces_cut b (x ∷ s) h = go (eqb x b) h (pieces_cut b s)
  where
    go :
        (t : Bool) → length (cond t [] (x ∷ before b s)) < suc (length s) →
        (length (before b s) < length s → pieces b s ≡ before b s ∷ pieces b (after b s)) →
        cond t ([] ∷ pieces b s) (on_first x (pieces b s)) ≡ cond t [] (x ∷ before b s) ∷ pieces b (cond t s (after b s))
    go true h ih = refl
    go false h ih = ap (on_first x) (ih (omega arith))

pub pieces_uncut : (b : ℕ) (s : List ℕ) → length s ≤ length (before b s) → pieces b s ≡ before b s ∷ []
unfolding pieces before
pieces_uncut b [] h = refl
pieces_uncut b (x ∷ s) h = go (eqb x b) h (pieces_uncut b s)
  where
    go :
        (t : Bool) → suc (length s) ≤ length (cond t [] (x ∷ before b s)) → (length s ≤ length (before b s) → pieces b s ≡ before b s ∷ []) →
        cond t ([] ∷ pieces b s) (on_first x (pieces b s)) ≡ cond t [] (x ∷ before b s) ∷ []
    go true h ih = absurd (omega arith)
    go false h ih = ap (on_first x) (ih (omega arith))

-- a loop over the pieces: n bytes before the next separator, from i on
module _ (b : ℕ) (s : List ℕ) (i n : ℕ) (e : n ≡ length (before b (drop i s))) where
  pub pieces_next : i + n < length s → pieces b (drop i s) ≡ take n (drop i s) ∷ pieces b (drop (i + n + 1) s)
  pieces_next h =
      let m : i + n + 1 ≡ i + (n + 1) = omega arith in
      pieces_cut b (drop i s) (rw (← e, length-drop i s) (omega arith))
      ∙ rw (head_part b (drop i s) n e, m, ← drop-drop (n + 1) i s, drop_part b (drop i s) n e)

  pub pieces_end : length s ≤ i + n → pieces b (drop i s) ≡ drop i s ∷ []
  pieces_end h =
      let l : length (drop i s) ≤ length (before b (drop i s)) = rw (← e, length-drop i s) (omega arith) in
      pieces_uncut b (drop i s) l ∙ ap (λ p. p ∷ []) (before_whole b (drop i s) l)

-- a field, and n more of what follows
abbrev more : ℕ → ℕ → List ℕ → List (List ℕ)
more b zero s = []
more b (suc n) s = fields_to b n s

fields_more : (b n : ℕ) (s : List ℕ) → fields_to b n s ≡ before b s ∷ more b n (after b s)
unfolding fields_to
fields_more b zero s = refl
fields_more b (suc n) s = refl

-- the pieces are the fields
pub pieces_fields : (b : ℕ) (s : List ℕ) → pieces b s ≡ fields_to b (count b s) s
unfolding pieces before after count
pieces_fields b [] = unfold fields_to in refl
pieces_fields b (x ∷ s) = go (eqb x b) (count b s) (pieces_fields b s) ∙ sym (fields_more b (count b (x ∷ s)) (x ∷ s))
  where
    go :
        (t : Bool) (n : ℕ) → pieces b s ≡ fields_to b n s →
        cond t ([] ∷ pieces b s) (on_first x (pieces b s)) ≡ cond t [] (x ∷ before b s) ∷ more b (cond t (suc n) n) (cond t s (after b s))
    go true n e = ap (λ r. [] ∷ r) e
    go false n e = ap (on_first x) (e ∙ fields_more b n s)

pub fields_length : (b n : ℕ) (s : List ℕ) → length (fields_to b n s) ≡ suc n
unfolding fields_to
fields_length b zero s = refl
fields_length b (suc n) s = ap suc (fields_length b n (after b s))

pub pieces_length : (b : ℕ) (s : List ℕ) → length (pieces b s) ≡ suc (count b s)
pieces_length b s = ap length (pieces_fields b s) ∙ fields_length b (count b s) s

-- HOW A NUMBER STARTS, BY ITS LENGTH AND FIRST BYTE

pub starts_one : (s : List ℕ) → length s ≡ 1 → true ≡ starts s
unfolding starts
starts_one [] h = absurd (omega arith)
starts_one (x ∷ []) h = refl
starts_one (x ∷ y ∷ s) h = absurd (omega arith)

pub starts_none : (s : List ℕ) → length s ≡ 0 → false ≡ starts s
unfolding starts
starts_none [] h = refl
starts_none (x ∷ s) h = absurd (omega arith)

pub starts_more : (s : List ℕ) → (length s ≡ 1 → ⊥) → (length s ≡ 0 → ⊥) → not (eqb (get_or s 0 0) 48) ≡ starts s
unfolding starts
starts_more [] h k = absurd (k refl)
starts_more (x ∷ []) h k = absurd (h refl)
starts_more (x ∷ y ∷ s) h k = refl
