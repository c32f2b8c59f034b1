-- A number as decimal digits with no leading zero but in "0" itself, and the number that a field of at most w digits says.
use Rattle.std.specs.Prelude.{ℕ, zero, suc, ◌+◌, ◌*◌, ◌-◌, ◌/◌, ◌%◌, ◌^◌, List, [], ◌∷◌, ◌++◌, Bool, true, false, cond, not, eqb, leb, ltb, length}

-- the value of a digit, '0' (48) to '9' (57); 10 for any other byte
unfoldable pub digit_of : ℕ → ℕ
digit_of x = cond (ltb x 48) 10 (cond (leb x 57) (x - 48) 10)

-- read the digits after a value v; bad where a byte is none
unfoldable pub scan : ℕ → ℕ → List ℕ → ℕ
scan bad v [] = v
scan bad v (x ∷ s) = cond (ltb (digit_of x) 10) (scan bad (v * 10 + digit_of x) s) bad

-- at least one byte, and no leading zero but in "0" itself
unfoldable pub starts : List ℕ → Bool
starts [] = false
starts (x ∷ []) = true
starts (x ∷ y ∷ s) = not (eqb x 48)

-- the number that a field of 1 to w digits says; 10 ^ w, which no such field says, where it is written otherwise
unfoldable pub value : ℕ → List ℕ → ℕ
value w s = cond (leb (length s) w) (cond (starts s) (scan (10 ^ w) 0 s) (10 ^ w)) (10 ^ w)

-- the decimal digits of n, of which there are at most k, with no zero in front
unfoldable pub digits : ℕ → ℕ → List ℕ
digits zero n = []
digits (suc k) n = elim (ltb n 10) [ true ↦ (48 + n) ∷ [] | false ↦ digits k (n / 10) ++ ((48 + n % 10) ∷ []) ]

-- n in decimal: it has no more than n + 1 digits
unfoldable pub decimal : ℕ → List ℕ
decimal n = digits (suc n) n
