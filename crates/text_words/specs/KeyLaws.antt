-- Two short words have one key exactly when they are the same; and the loop that makes a key.
use Rattle.std.specs.Prelude.{ℕ, suc, ◌+◌, ◌*◌, ◌^◌, ◌≤◌, ◌<◌, ◌≡◌, refl, List, [], ◌∷◌, Bool, true, false, cond, ◌&&◌, eqb, ltb, length, get_or, drop}
use Rattle.std.proofs.Math.Path.{ap, sym}
use Rattle.std.proofs.Common.{◌∙◌, pow-suc, add-one, arith, drop_of_length-le, eq-eqb, ne_eqb, ltb-true, ltb-false, lt-ltb, le-ltb}
use Rattle.std.proofs.Math.Nat.{pow-le-pow_right}
use Rattle.laws.specs.BoolLaws.{both_left, both_right}
use Rattle.laws.specs.Bytes.{same}
use Rattle.laws.specs.BytesLaws.{same_equal, same_self}
use Rattle.laws.specs.Fields.{before, after}
use Rattle.laws.specs.Steps.{drop_next}
use Rattle.text_words.specs.Keys.{spell, key_of}

-- every element is a byte
unfoldable pub small : List ℕ → Bool
small [] = true
small (x ∷ s) = ltb x 256 && small s

-- a word that has a key of its own
abbrev pub proper : List ℕ → Bool
proper w = ltb 0 (length w) && (ltb (length w) 8 && small w)

pub small_slice : (s : List ℕ) → ((i : ℕ) → get_or s i 0 < 256) → small s ≡ true
unfolding small
small_slice [] h = refl
small_slice (x ∷ s) h = simp (lt-ltb x 256 (h 0)) (small_slice s (λ i. h (suc i)))

pub small_before : (b : ℕ) (s : List ℕ) → small s ≡ true → small (before b s) ≡ true
unfolding small before
small_before b [] h = refl
small_before b (x ∷ s) h =
    go (eqb x b) (both_left (ltb x 256) (small s) h) (small_before b s (both_right (ltb x 256) (small s) h))
  where
    go : (t : Bool) → ltb x 256 ≡ true → small (before b s) ≡ true → small (cond t [] (x ∷ before b s)) ≡ true
    go true k ih = refl
    go false k ih = rw k ih

pub small_after : (b : ℕ) (s : List ℕ) → small s ≡ true → small (after b s) ≡ true
unfolding small after
small_after b [] h = refl
small_after b (x ∷ s) h =
    go (eqb x b) (both_right (ltb x 256) (small s) h) (small_after b s (both_right (ltb x 256) (small s) h))
  where
    go : (t : Bool) → small s ≡ true → small (after b s) ≡ true → small (cond t s (after b s)) ≡ true
    go true k ih = k
    go false k ih = ih

-- words of one length that spell one number are the same
spell_same :
    (s t : List ℕ) (v u : ℕ) → small s ≡ true → small t ≡ true → length s ≡ length t → spell v s ≡ spell u t → (v ≡ u) × (s ≡ t)
unfolding small spell
spell_same [] [] v u hs ht l e = (e, refl)
spell_same [] (y ∷ t) v u hs ht l e = absurd (omega arith)
spell_same (x ∷ s) [] v u hs ht l e = absurd (omega arith)
spell_same (x ∷ s) (y ∷ t) v u hs ht l e =
    let k : x < 256 = ltb-true x 256 (both_left (ltb x 256) (small s) hs) in
    let m : y < 256 = ltb-true y 256 (both_left (ltb y 256) (small t) ht) in
    let r = spell_same s t (v * 256 + x) (u * 256 + y) (both_right (ltb x 256) (small s) hs) (both_right (ltb y 256) (small t) ht) (omega arith) e in
    let p : x ≡ y = omega (arith, r.0) in
    (omega (arith, r.0), cc r.1)

key_short : (s : List ℕ) → length s ≤ 7 → key_of s ≡ spell 0 s * 8 + length s
unfolding key_of
key_short s h = rw (le-ltb 7 (length s) h)

pub key_long : (s : List ℕ) → 7 < length s → key_of s ≡ 0
unfolding key_of
key_long s h = rw (lt-ltb 7 (length s) h)

key_equal : (s w : List ℕ) → small s ≡ true → proper w ≡ true → key_of s ≡ key_of w → s ≡ w
key_equal s w hs hw e = go (ltb 7 (length s)) refl
  where
    lo : 0 < length w
    lo = ltb-true 0 (length w) (both_left (ltb 0 (length w)) (ltb (length w) 8 && small w) hw)

    more : (ltb (length w) 8 && small w) ≡ true
    more = both_right (ltb 0 (length w)) (ltb (length w) 8 && small w) hw

    hi : length w < 8
    hi = ltb-true (length w) 8 (both_left (ltb (length w) 8) (small w) more)

    kw : key_of w ≡ spell 0 w * 8 + length w
    kw = key_short w (omega (arith, hi))

    go : (q : Bool) → ltb 7 (length s) ≡ q → s ≡ w
    go true f = absurd (omega (arith, key_long s (ltb-true 7 (length s) f), kw, lo, e))
    go false f =
        let n : length s ≤ 7 = ltb-false 7 (length s) f in
        (spell_same s w 0 0 hs (both_right (ltb (length w) 8) (small w) more) (omega (arith, key_short s n, kw, hi, e)) (omega (arith, key_short s n, kw, hi, e))).1

-- a word is told by its key
pub same_key : (s w : List ℕ) → small s ≡ true → proper w ≡ true → same s w ≡ eqb (key_of s) (key_of w)
same_key s w hs hw = go (same s w) refl
  where
    go : (q : Bool) → same s w ≡ q → q ≡ eqb (key_of s) (key_of w)
    go true e = sym (eq-eqb (key_of s) (key_of w) (ap key_of (same_equal s w e)))
    go false e =
        sym (ne_eqb (key_of s) (key_of w) (λ k. let f : s ≡ w = key_equal s w hs hw k in let z : true ≡ false = sym (same_self s) ∙ ap (same s) f ∙ e in let y : ◌≡◌ {A = ℕ} 0 1 = cc in omega arith))

-- THE LOOP: the first i bytes spell v
pub record Spelt (s : List ℕ) (v i : ℕ) : Type 0 where
  pub within : i ≤ length s
  pub room : v < 256 ^ i
  pub is : spell 0 s ≡ spell v (drop i s)

module _ {s : List ℕ} where
  pub spelt_none : Spelt s 0 0
  spelt_none = record { within = omega arith; room = omega arith; is = refl }

  pub spelt_more : {v i : ℕ} → Spelt s v i → i < length s → get_or s i 0 < 256 → Spelt s (v * 256 + get_or s i 0) (i + 1)
  unfolding spell
  spelt_more {v} {i} h l k =
      record { within = omega arith; room = rw (add-one, pow-suc) (omega arith); is = h.is ∙ ap (spell v) (drop_next s i l) }

  -- room for one byte more, of w at most
  pub spelt_room : {v i : ℕ} (w : ℕ) → Spelt s v i → i < length s → length s ≤ w → v * 256 + 255 < 256 ^ w
  spelt_room {v} {i} w h l k =
      let p : 256 ^ suc i ≤ 256 ^ w = pow-le-pow_right (omega arith) (omega arith) in
      omega (arith, pow-suc 256 i)

  pub spelt_small : {v i : ℕ} (w : ℕ) → Spelt s v i → length s ≤ w → v < 256 ^ w
  spelt_small {v} {i} w h k =
      let p : 256 ^ i ≤ 256 ^ w = pow-le-pow_right (omega arith) (omega arith) in
      omega arith

  pub spelt_end : {v i : ℕ} → Spelt s v i → length s ≤ i → length s ≤ 7 → v * 8 + length s ≡ key_of s
  unfolding spell
  spelt_end {v} {i} h l k =
      let e : v ≡ spell 0 s = sym (h.is ∙ ap (spell v) (drop_of_length-le s l)) in
      omega (arith, key_short s k)
