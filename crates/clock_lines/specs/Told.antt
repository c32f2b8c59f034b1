-- A text told into a buffer behind n bytes where `on`, else not at all, and the place behind it: n itself where nothing is told.
use Rattle.std.specs.Prelude.{ℕ, ◌+◌, ◌-◌, ◌≡◌, refl, List, [], ◌++◌, Bool, true, false, length, take, drop}
use Rattle.std.proofs.Common.{ap, sym, ◌∙◌, add-zero, arith, length-append}
use Rattle.std.proofs.lemmas.Bool.{false≢true}
use Rattle.std.specs.Prelude.{if◌then◌else◌}
use Rattle.text_letters.specs.Wrote.{Wrote}
use Rattle.text_told.proofs.AtLaws.{told_both}
pub use Rattle.text_told.specs.At.{told_at, RoomAt}
pub use Rattle.text_told.proofs.AtLaws.{told_none, told_off, told_length, room_first, begins_within, left_fits, told_on, told_fits}

-- the place behind it
unfoldable pub told_to : Bool → List ℕ → ℕ → ℕ
told_to on x n = if on then n + length x else n

-- NOTHING TOLD

pub told_to_none : (on : Bool) (n : ℕ) → told_to on [] n ≡ n
unfolding told_to
told_to_none true n = add-zero n
told_to_none false n = refl

-- NOT TOLD

pub told_to_off : {on : Bool} (x : List ℕ) (n : ℕ) → on ≡ false → told_to on x n ≡ n
unfolding told_to
told_to_off x n e = rw e

-- IN TWO PARTS: x, and y behind it

pub told_to_two : (on : Bool) (x y : List ℕ) (n : ℕ) → told_to on (x ++ y) n ≡ told_to on y (told_to on x n)
unfolding told_to
told_to_two true x y n = omega (arith, length-append x y)
told_to_two false x y n = refl

to_on : (x : List ℕ) (n : ℕ) → told_to true x n ≡ n + length x
unfolding told_to
to_on x n = refl

pub told_two :
    (on : Bool) (x y o : List ℕ) (n : ℕ) → RoomAt on (x ++ y) o n → told_at on (x ++ y) o n ≡ told_at on y (told_at on x o n) (told_to on x n)
told_two true x y o n h = told_both true x y o n h ∙ ap (told_at true y (told_at true x o n)) (sym (to_on x n))
told_two false x y o n h = told_off (x ++ y) o n refl ∙ sym (told_off y (told_at false x o n) (told_to false x n) refl ∙ told_off x o n refl)

pub room_rest : (on : Bool) (x y o : List ℕ) (n : ℕ) → RoomAt on (x ++ y) o n → RoomAt on y (told_at on x o n) (told_to on x n)
room_rest true x y o n h e =
    omega (arith, h refl, to_on x n, length-append x y, told_length true x o n (room_first true x y o n h))
room_rest false x y o n h e = absurd (false≢true e)

-- WRITTEN: x in what is left behind the first n bytes
pub told_to_on : {on : Bool} (x o : List ℕ) (n : ℕ) → on ≡ true → {c : List ℕ} {m : ℕ} → Wrote x (take (length o - n) (drop n o)) c m → n + m ≡ told_to on x n
unfolding told_to
told_to_on x o n e w = rw e (ap (λ k. n + k) w.count)
