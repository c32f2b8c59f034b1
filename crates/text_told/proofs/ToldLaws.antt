-- Laws of texts told one behind another: counted and written alike.
use Rattle.std.specs.Prelude.{ℕ, ◌+◌, ◌-◌, ◌≤◌, ◌≡◌, List, [], ◌++◌, Bool, true, false, length, take, drop}
use Rattle.std.proofs.Common.{ap, sym, ◌∙◌, arith, length-append}
use Rattle.text_letters.specs.Wrote.{Wrote, Joins}
use Rattle.text_told.specs.At.{told_at}
use Rattle.text_told.proofs.AtLaws.{told_none, told_off, told_length, told_both, begins_within, left_fits, told_on, told_fits}
use Rattle.text_told.specs.Told.{Space, Told}

-- equal texts
pub space_as : {on : Bool} {x y o : List ℕ} {n : ℕ} → x ≡ y → Space on x o n → Space on y o n
space_as e s = rw e at s

pub told_as : {on : Bool} {x y o p : List ℕ} {n r : ℕ} → x ≡ y → Told on y o p n r → Told on x o p n r
told_as e t = rw e t

-- a text that is no longer
pub space_less : {on : Bool} {x y o : List ℕ} {n : ℕ} → length x ≤ length y → Space on y o n → Space on x o n
space_less h s = record { counted = omega (arith, s.counted); written = λ e. omega (arith, s.written e) }

-- NOTHING
pub told_nothing : (on : Bool) (o : List ℕ) (n : ℕ) → Told on [] o o n n
told_nothing on o n = record { place = omega arith; buffer = sym (told_none on o n) }

-- the buffer keeps its length
pub told_room : {on : Bool} {x o p : List ℕ} {n k : ℕ} → Space on x o n → Told on x o p n k → length p ≡ length o
told_room {on} {x} {o} {n = n} s t = ap length t.buffer ∙ told_length on x o n s.written

-- A TEXT THAT IS x, AND y BEHIND IT
module _ {on : Bool} {text x y : List ℕ} (j : Joins text x y) {o : List ℕ} {n : ℕ} (s : Space on text o n) where
  sizes : length text ≡ length x + length y
  sizes = ap length j.is ∙ length-append x y

  pub space_first : Space on x o n
  space_first = record {
    counted = omega (arith, s.counted, sizes);
    written = λ e. omega (arith, s.written e, sizes);
  }

  module _ {p : List ℕ} {k : ℕ} (t : Told on x o p n k) where
    pub space_then : Space on y p k
    space_then = record {
      counted = omega (arith, s.counted, sizes, t.place);
      written = λ e. omega (arith, s.written e, sizes, t.place, told_room space_first t);
    }

    pub told_then : {q : List ℕ} {r : ℕ} → Told on y p q k r → Told on text o q n r
    told_then {q} {r} u = record {
      place = omega (arith, t.place, u.place, sizes);
      buffer =
          u.buffer
          ∙ rw (t.buffer, t.place) (sym (ap (λ z. told_at on z o n) j.is ∙ told_both on x y o n (λ e. rw j.is at (s.written e))));
    }

-- ONE TEXT, as code tells it
module _ {on : Bool} (x o : List ℕ) (n : ℕ) (s : Space on x o n) where
  module _ (e : on ≡ true) where
    pub within : n ≤ length o
    within = begins_within x o n e s.written

    pub fits_left : length x ≤ length (take (length o - n) (drop n o))
    fits_left = left_fits x o n e s.written

    module _ {c : List ℕ} {m : ℕ} (w : Wrote x (take (length o - n) (drop n o)) c m) where
      pub ends_within : n + m ≤ length o
      ends_within = told_fits x o n e s.written w

      pub told_written : Told on x o (take n o ++ (c ++ drop (length o - n) (drop n o))) n (n + m)
      told_written = record { place = ap (λ k. n + k) w.count; buffer = told_on x o n e s.written w }

  pub told_counted : on ≡ false → {m : ℕ} → m ≡ length x → Told on x o o n (n + m)
  told_counted e h = record { place = ap (λ k. n + k) h; buffer = sym (told_off x o n e) }
