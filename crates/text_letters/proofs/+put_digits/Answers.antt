-- `text_letters::put_digits` meets its contract.
use Prim.Native.Nat.{ℕ, ◌+◌, ◌/◌, ◌%◌, ◌≤◌}
use mathlib.Core.Path.{◌≡◌, ap}
use mathlib.Core.List.{List}
use native.Mathlib.Omega.{arith}
use lib.ListN.{length}
use Rattle.laws.specs.Decimal.{decimal}
use Rattle.text_letters.specs.Wrote.{Wrote}
use Rattle.text_letters.specs.WroteLaws.{wrote_as, first_fits, ends, rest_fits, both_wrote}
use Rattle.text_letters.specs.DigitLaws.{decimal_only, decimal_last}
use Rattle.text_letters.proofs.+put_digits.Goals as goal

pub put_byte-requires : goal.put_byte-requires
put_byte-requires t c = omega (arith, c.requires, ap length (decimal_only c.if-n-lt10.true c.digit-d.ensures))

pub returns-then-n-lt10 : goal.returns-then-n-lt10
returns-then-n-lt10 t c = wrote_as (decimal_only c.if-n-lt10.true c.digit-d.ensures) c.put_byte.ensures

pub put_digits-k-requires : goal.put_digits-k-requires
put_digits-k-requires t c =
    let e = decimal_last c.if-n-lt10.false c.digit-d.ensures in
    (omega (arith, c.if-n-lt10.false), first_fits e c.requires)

pub put_byte-requires-2 : goal.put_byte-requires-2
put_byte-requires-2 t c = rest_fits (decimal_last c.if-n-lt10.false c.digit-d.ensures) c.requires c.put_digits-k.ensures

pub returns : goal.returns
returns t c = both_wrote (decimal_last c.if-n-lt10.false c.digit-d.ensures) c.requires c.put_digits-k.ensures c.put_byte-2.ensures
