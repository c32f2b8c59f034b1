-- A line as code tests it: each number by its field, once its kind is found by tabs and words.
use Rattle.std.specs.Prelude.{ℕ, List, Bool, true, false, ◌&&◌, eqb, ltb, Option, Some, None}
use Rattle.plan.specs.declared.Kind.{Kind}
use Rattle.laws.specs.Choice.{when}
use Rattle.laws.specs.Fields.{before, after}
use Rattle.plan.specs.Limits.{tab}
use Rattle.plan.specs.Line.{number_at, shape, size}
use Rattle.text_lines.specs.Said.{Said}
use Rattle.text_words.specs.Keys.{kind_at}

-- how many numbers a line of this kind has
abbrev pub size_in : Option Kind → ℕ
size_in None = 0
size_in (Some k) = size (shape k)

unfoldable pub pick_of : Bool → List ℕ → List ℕ → List ℕ
pick_of true s t = s
pick_of false s t = t

-- the field of a line's second number
unfoldable pub place_of : Bool → ℕ
place_of true = 4
place_of false = 3

-- WHAT IS SAID by a line with c tabs and n numbers, of the fields x, y, z, p, q after its word: of two numbers on three tabs the second stands in z
unfoldable pub said_by : ℕ → ℕ → Option Kind → List ℕ → List ℕ → List ℕ → List ℕ → List ℕ → Said
said_by c n f x y z p q =
    record {
      found = f;
      a = when (ltb 0 n) (number_at 2 x);
      b = when (ltb 1 n) (number_at (place_of (eqb c 3 && eqb n 2)) (pick_of (eqb c 3 && eqb n 2) z y));
      c = when (ltb 2 n) (number_at 4 z);
      d = when (ltb 3 n) (number_at 5 p);
      e = when (ltb 4 n) (number_at 6 q);
    }

-- of the fields x, y and what follows them
unfoldable pub said_fields : ℕ → Option Kind → List ℕ → List ℕ → List ℕ → Said
said_fields c f x y v = said_by c (size_in f) f x y (before tab v) (before tab (after tab v)) (before tab (after tab (after tab v)))

-- of the first field and what follows it
unfoldable pub said_after : ℕ → List ℕ → List ℕ → Said
said_after c w t =
    said_fields c (kind_at c w (before tab t) (before tab (after tab t))) (before tab t) (before tab (after tab t)) (after tab (after tab t))
