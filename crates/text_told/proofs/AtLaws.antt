-- A text written into a buffer behind n bytes: nothing, a part after a part, and what the buffer keeps.
use Rattle.std.specs.Prelude.{ℕ, ◌+◌, ◌-◌, ◌≤◌, ◌≡◌, refl, Bool, true, false, take}
use Rattle.std.proofs.Common.{ap, sym, ◌∙◌, add-zero, arith, length-append, length-take, take-append-drop, take_at, drop_at, drop-drop, length-take-le}
use mathlib.Core.List.{List, [], ◌++◌, append_assoc, append-nil}
use Rattle.std.proofs.Math.ListN.{length, drop, length-drop, drop_of_length-le}
use Rattle.laws.specs.Steps.{take_rest}
use Rattle.text_letters.specs.Wrote.{Wrote}
use Rattle.text_told.specs.At.{told_at, RoomAt}

-- NOTHING TOLD

pub told_none : (on : Bool) (o : List ℕ) (n : ℕ) → told_at on [] o n ≡ o
unfolding told_at
told_none true o n = rw (append-nil, add-zero) (take-append-drop n o)
told_none false o n = refl

-- NOT TOLD

pub told_off : {on : Bool} (x o : List ℕ) (n : ℕ) → on ≡ false → told_at on x o n ≡ o
unfolding told_at
told_off x o n e = rw e

-- THE BUFFER KEEPS ITS LENGTH

pub told_length : (on : Bool) (x o : List ℕ) (n : ℕ) → RoomAt on x o n → length (told_at on x o n) ≡ length o
unfolding told_at
told_length true x o n h = let k = h refl in simp (length-append, length-take, length-drop) (omega arith)
told_length false x o n h = refl

-- IN TWO PARTS: x, and y behind it

pub room_first : (on : Bool) (x y o : List ℕ) (n : ℕ) → RoomAt on (x ++ y) o n → RoomAt on x o n
room_first on x y o n h e = omega (arith, h e, length-append x y)

-- of a buffer with x in it
module _ (x o : List ℕ) (n : ℕ) (h : n + length x ≤ length o) where
  begins_long : length (take n o ++ x) ≡ n + length x
  begins_long = length-append (take n o) x ∙ ap (λ m. m + length x) (length-take-le n o (omega arith))

  begins : take (n + length x) ((take n o ++ x) ++ drop (n + length x) o) ≡ take n o ++ x
  begins = take_at (take n o ++ x) (drop (n + length x) o) (n + length x) begins_long

  goes_on_law : (m : ℕ) → drop ((n + length x) + m) ((take n o ++ x) ++ drop (n + length x) o) ≡ drop ((n + length x) + m) o
  goes_on_law m =
      sym (drop-drop m (n + length x) _)
      ∙ ap (drop m) (drop_at (take n o ++ x) (drop (n + length x) o) (n + length x) begins_long)
      ∙ drop-drop m (n + length x) o

two_parts :
    (x y o : List ℕ) (n : ℕ) → n + length (x ++ y) ≤ length o →
    told_at true (x ++ y) o n ≡ told_at true y (told_at true x o n) (n + length x)
unfolding told_at
two_parts x y o n h =
    let k : n + length x ≤ length o = omega (arith, length-append x y) in
    let e : n + length (x ++ y) ≡ (n + length x) + length y = omega (arith, length-append x y) in
    ap (λ m. (take n o ++ (x ++ y)) ++ drop m o) e
    ∙ ap (λ l. l ++ drop ((n + length x) + length y) o) (sym (append_assoc (take n o) x y))
    ∙ sym (ap (λ l. (l ++ y) ++ drop ((n + length x) + length y) ((take n o ++ x) ++ drop (n + length x) o)) (begins x o n k)
    ∙ ap (λ l. ((take n o ++ x) ++ y) ++ l) (goes_on_law x o n k (length y)))

pub told_both :
    (on : Bool) (x y o : List ℕ) (n : ℕ) → RoomAt on (x ++ y) o n → told_at on (x ++ y) o n ≡ told_at on y (told_at on x o n) (n + length x)
told_both true x y o n h = two_parts x y o n (h refl)
told_both false x y o n h = told_off (x ++ y) o n refl ∙ sym (told_off y (told_at false x o n) (n + length x) refl ∙ told_off x o n refl)

-- WRITTEN: x in what is left behind the first n bytes

module _ {on : Bool} (x o : List ℕ) (n : ℕ) (e : on ≡ true) (h : RoomAt on x o n) where
  pub begins_within : n ≤ length o
  begins_within = omega (arith, h e)

  pub left_fits : length x ≤ length (take (length o - n) (drop n o))
  left_fits = rw (take_rest n o, length-drop n o) (omega (arith, h e))

  module _ {c : List ℕ} {m : ℕ} (w : Wrote x (take (length o - n) (drop n o)) c m) where
    pub told_on : take n o ++ (c ++ drop (length o - n) (drop n o)) ≡ told_at on x o n
    unfolding told_at
    told_on =
        let q : c ≡ x ++ drop (n + length x) o = w.bytes ∙ rw (take_rest n o, drop-drop) in
        let r : drop (length o - n) (drop n o) ≡ [] = drop_of_length-le (drop n o) {i = length o - n} (rw length-drop (omega arith)) in
        rw (e, r, append-nil, q, append_assoc)

    pub told_fits : n + m ≤ length o
    told_fits = omega (arith, h e, w.count)
