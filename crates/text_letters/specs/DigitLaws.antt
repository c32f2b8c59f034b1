-- A number in decimal: one digit, or its tenth's digits and one more.
use Rattle.std.specs.Prelude.{ℕ, suc, ◌+◌, ◌/◌, ◌%◌, ◌^◌, ◌≤◌, ◌<◌, ◌≡◌, [], ◌∷◌, ◌++◌}
use Rattle.std.proofs.Common.{ap, sym, ◌∙◌, arith}
use Rattle.std.proofs.Math.Nat.{pow-le-pow_right}
use Rattle.laws.specs.Decimal.{decimal, digits}
use Rattle.laws.proofs.DecimalLaws.{digits_one, digits_more, decimal_digits, below_power}
use Rattle.text_letters.specs.Wrote.{Joins}

decimal_one : (n : ℕ) → n < 10 → decimal n ≡ (48 + n) ∷ []
unfolding decimal
decimal_one n h = digits_one n n h

-- one digit
pub decimal_only : {n d : ℕ} → n < 10 → d ≡ 48 + n % 10 → decimal n ≡ d ∷ []
decimal_only {n} {d} h e = let k : d ≡ 48 + n = omega arith in decimal_one n h ∙ ap (λ m. m ∷ []) (sym k)

decimal_step : (n : ℕ) → 10 ≤ n → decimal n ≡ digits n (n / 10) ++ ((48 + n % 10) ∷ [])
unfolding decimal
decimal_step n h = digits_more n n h

-- the last digit stands behind those of a tenth
pub decimal_last : {n d : ℕ} → 10 ≤ n → d ≡ 48 + n % 10 → Joins (decimal n) (decimal (n / 10)) (d ∷ [])
decimal_last {n} {d} h k =
    let q : n / 10 < 10 ^ suc (n / 10) = below_power (n / 10) in
    let p : 10 ^ suc (n / 10) ≤ 10 ^ n = pow-le-pow_right (omega arith) (omega arith) in
    let e : decimal (n / 10) ≡ digits n (n / 10) = decimal_digits n (n / 10) (omega arith) (omega arith) in
    record { is = decimal_step n h ∙ rw (e, k) }

-- two digits
pub decimal_two : {n d q : ℕ} → 10 ≤ n → n < 100 → d ≡ 48 + n % 10 → q ≡ 48 + (n / 10) % 10 → Joins (decimal n) (q ∷ []) (d ∷ [])
decimal_two {n} {d} {q} h l e k = let m : n / 10 < 10 = omega arith in record { is = (decimal_last h e).is ∙ ap (λ x. x ++ (d ∷ [])) (decimal_only m k) }
