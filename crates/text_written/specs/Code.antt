-- Numbers of a line as code tests them: as many of five as its kind has.
use Rattle.std.specs.Prelude.{ℕ, ◌-◌, Bool, cond, ◌&&◌, ◌||◌, leb, ltb}
use Rattle.laws.specs.Choice.{when}
use Rattle.plan.specs.Line.{bad}

-- are the first n of five numbers written as they should be?
unfoldable pub written_by : ℕ → ℕ → ℕ → ℕ → ℕ → ℕ → Bool
written_by n a b c d e =
    (leb n 0 || ltb a bad) && ((leb n 1 || ltb b bad) && ((leb n 2 || ltb c bad) && ((leb n 3 || ltb d bad) && (leb n 4 || ltb e bad))))

-- where there is a number x: its field where it is not written as it should be, else what follows it
unfoldable pub spot_of : Bool → ℕ → ℕ → ℕ
spot_of on x rest = when on (cond (ltb x bad) rest (x - bad))

-- the field of the first of n numbers that is not written as it should be
unfoldable pub unwritten_by : ℕ → ℕ → ℕ → ℕ → ℕ → ℕ → ℕ
unwritten_by n a b c d e = spot_of (ltb 0 n) a (spot_of (ltb 1 n) b (spot_of (ltb 2 n) c (spot_of (ltb 3 n) d (spot_of (ltb 4 n) e 0))))
