-- The size of a text is the sum of its parts' sizes.
use Rattle.std.specs.Prelude.{ℕ, ◌+◌, ◌/◌, ◌^◌, ◌≤◌, ◌<◌, ◌≡◌, refl, List, [], ◌∷◌, length}
use Rattle.std.proofs.Common.{ap, ◌∙◌, arith, length-append}
use Rattle.laws.specs.Decimal.{decimal}
use Rattle.laws.proofs.DecimalLaws.{decimal_length}
use Rattle.text_letters.specs.Wrote.{Joins, Sized}
use Rattle.text_letters.specs.Tabbed.{tabbed, rest}
use Rattle.text_letters.specs.TabbedLaws.{rest_joins}
use Rattle.text_letters.specs.DigitLaws.{decimal_only, decimal_last}

-- equal texts
pub sized_as : {t u : List ℕ} {b r : ℕ} → t ≡ u → Sized u b r → Sized t b r
sized_as e s = rw e s

-- a field after a tab, and then u
pub tabbed_sized : {text f u : List ℕ} {b c x y : ℕ} → Joins text (tabbed f) u → Sized f b x → Sized u c y → Sized text (b + c + 1) (x + y + 1)
tabbed_sized {text} {f} {u} j p q =
    let e : length text ≡ length (tabbed f) + length u = ap length j.is ∙ length-append (tabbed f) u in
    record { is = let k = p.is in let l = q.is in omega arith; small = let k = p.small in let l = q.small in omega arith }

pub rest_sized : {f : List ℕ} (fs : List (List ℕ)) {b c x y : ℕ} → Sized f b x → Sized (rest fs) c y → Sized (rest (f ∷ fs)) (b + c + 1) (x + y + 1)
rest_sized {f} fs p q = tabbed_sized (rest_joins f fs) p q

pub end_sized : Sized (rest []) 1 1
unfolding rest
end_sized = record { is = refl; small = omega arith }

-- a number of 64 bits has at most 20 digits
pub one_sized : {n : ℕ} → n < 10 → Sized (decimal n) 20 1
one_sized {n} h = let e = ap length (decimal_only h refl) in record { is = omega arith; small = omega arith }

pub more_sized : {n r : ℕ} → 10 ≤ n → n < 10 ^ 20 → Sized (decimal (n / 10)) 20 r → Sized (decimal n) 20 (r + 1)
more_sized {n} {r} h k s =
    let j = decimal_last h refl in
    let e : length (decimal n) ≡ length (decimal (n / 10)) + 1 = ap length j.is ∙ length-append (decimal (n / 10)) _ in
    let l : length (decimal n) ≤ 20 = decimal_length 20 n (omega arith) k in
    let i = s.is in
    record { is = omega arith; small = omega arith }
