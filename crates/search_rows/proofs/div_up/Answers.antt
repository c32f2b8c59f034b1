-- `search_rows::div_up` meets its contract.
use Rattle.std.proofs.Common.{ℕ, ◌≡◌, ◌<◌, ◌≤◌, ◌+◌, ◌-◌, ◌*◌, ◌/◌, ◌%◌, min, ap, sym, ◌∙◌, arith}
use Rattle.std.proofs.lemmas.Nat.{div-mul-add}
use Rattle.std.proofs.lemmas.Grind.{div_ceil_times}
use Rattle.laws.specs.Sums.{up}
use Rattle.search_rows.proofs.div_up.Goals as goal

-- the least d whose product with b reaches a
up_is : (a b d : ℕ) → 0 < b → a ≤ d * b → d * b < a + b → d ≡ up a b
unfolding up
up_is a b d p h l =
    let e : a + (b - 1) ≡ d * b + (a + (b - 1) - d * b) = omega arith in
    sym (ap (λ (n : ℕ). n / b) e ∙ div-mul-add d b (a + (b - 1) - d * b) (omega arith))

pub returns : goal.returns
returns c =
    let a = c.args.a in
    let b = c.args.b in
    let t = div_ceil_times a b (omega arith) in
    c.div_ceil.ensures ∙ up_is a b (a / b + min 1 (a % b)) (omega arith) t.0 t.1
