-- How long a number's field and a line are.
use Rattle.std.specs.Prelude.{ℕ, ◌+◌, ◌≤◌, ◌<◌, ◌≡◌, List, [], ◌∷◌, length}
use Rattle.std.proofs.Common.{arith, length-append}
use Rattle.laws.specs.Sums.{sum}
use Rattle.laws.specs.Bytes.{joined}
use Rattle.laws.specs.Decimal.{decimal}
use Rattle.laws.proofs.DecimalLaws.{decimal_length}
use Rattle.plan.specs.Limits.{tab, lf}
use Rattle.listing.specs.Listing.{line}

-- n, lock places
pub one_digit : {n : ℕ} → n < 10 → length (decimal n) ≤ 1
one_digit {n} h = decimal_length 1 n (omega arith) h

-- v, numbers that say no
pub two_digits : {n : ℕ} → n < 100 → length (decimal n) ≤ 2
two_digits {n} h = decimal_length 2 n (omega arith) h

-- windows, rounds, lines
pub seven_digits : {n : ℕ} → n < 10000000 → length (decimal n) ≤ 7
seven_digits {n} h = decimal_length 7 n (omega arith) h

-- a field and the byte after it
abbrev pub field_size : List ℕ → ℕ
field_size f = length f + 1

joined_length : (f : List ℕ) (fs : List (List ℕ)) → length (joined tab (f ∷ fs)) + 1 ≡ sum field_size (f ∷ fs)
unfolding joined sum
joined_length f [] = omega arith
joined_length f (g ∷ fs) = omega (arith, length-append f (tab ∷ joined tab (g ∷ fs)), joined_length g fs)

pub line_length : (f : List ℕ) (fs : List (List ℕ)) → length (line (f ∷ fs)) ≡ sum field_size (f ∷ fs)
unfolding line
line_length f fs = omega (arith, length-append (joined tab (f ∷ fs)) (lf ∷ []), joined_length f fs)
