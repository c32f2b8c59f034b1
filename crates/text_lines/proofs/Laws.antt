-- What a line says, from its parts.
use Rattle.std.specs.Prelude.{Option}
use Rattle.plan.specs.declared.Kind.{Kind}
use Prim.Native.Nat.{ℕ}
use mathlib.Core.Path.{◌≡◌}
use mathlib.Core.List.{List}
use mathlib.Core.Bool.{true, ◌&&◌}
use lib.Dec.{eqb, ltb}
use Rattle.laws.specs.Choice.{when}
use Rattle.laws.specs.Fields.{before, after, count, field}
use Rattle.plan.specs.Limits.{tab}
use Rattle.plan.specs.Line.{number_at}
use Rattle.text_words.specs.Keys.{kind_at}
use Rattle.text_words.specs.KeyLaws.{small}
use Rattle.text_words.specs.KindLaws.{kind_code}
use Rattle.text_lines.specs.Said.{Said, said_of}
use Rattle.text_lines.specs.Code.{size_in, pick_of, place_of, said_by, said_fields, said_after}
use Rattle.text_lines.specs.SaidLaws.{said_code}

-- by its numbers
pub by_told :
    (k n : ℕ) (f : Option Kind) (x y z p q : List ℕ) {s : List ℕ} {i a b c d e : ℕ} →
    s ≡ pick_of (eqb k 3 && eqb n 2) z y → a ≡ when (ltb 0 n) (number_at 2 x) → i ≡ place_of (eqb k 3 && eqb n 2) → b ≡ when (ltb 1 n) (number_at i s) →
    c ≡ when (ltb 2 n) (number_at 4 z) → d ≡ when (ltb 3 n) (number_at 5 p) → e ≡ when (ltb 4 n) (number_at 6 q) →
    record { found = f; a = a; b = b; c = c; d = d; e = e } ≡ said_by k n f x y z p q
unfolding said_by
by_told k n f x y z p q s a i b c d e = rw (a, b, c, d, e, i, s)

-- by its fields x, y and what follows them
pub fields_told :
    (c : ℕ) (f : Option Kind) (x y v : List ℕ) {z u p t q : List ℕ} {n : ℕ} {r : Said} →
    z ≡ before tab v → u ≡ after tab v → p ≡ before tab u → t ≡ after tab u → q ≡ before tab t → n ≡ size_in f → r ≡ said_by c n f x y z p q →
    r ≡ said_fields c f x y v
unfolding said_fields
fields_told c f x y v z u p t q n r = rw (r, n, q, t, p, u, z)

-- by its first field and what follows it
pub after_told :
    (c : ℕ) (w t : List ℕ) {x u y v : List ℕ} {f : Option Kind} {r : Said} →
    x ≡ before tab t → u ≡ after tab t → y ≡ before tab u → v ≡ after tab u → f ≡ kind_at c w x y → r ≡ said_fields c f x y v → r ≡ said_after c w t
unfolding said_after
after_told c w t x u y v f r = rw (r, f, v, y, u, x)

-- the whole line
pub line_told :
    (l : List ℕ) {w t : List ℕ} {c : ℕ} {r : Said} → small l ≡ true → w ≡ before tab l → t ≡ after tab l → c ≡ count tab l → r ≡ said_after c w t → r ≡ said_of l
unfolding said_after said_fields field
line_told l h w t c r = rw (r, c, t, w, said_code l, kind_code l h)
