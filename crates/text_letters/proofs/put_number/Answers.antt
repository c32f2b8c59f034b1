-- `text_letters::put_number` meets its contract.
use borrow.Author.Rules.{rules}
use mathlib.Core.Path.{ap}
use native.Mathlib.Omega.{arith}
use lib.ListN.{length}
use Rattle.text_letters.specs.WroteLaws.{wrote_as, first_fits, ends, rest_fits, both_wrote}
use Rattle.text_letters.specs.DigitLaws.{decimal_only, decimal_two}
use Rattle.text_letters.proofs.put_number.Goals as goal

pub put_byte-requires : goal.put_byte-requires
put_byte-requires c =
    let p = c.requires in omega (arith, ap length (decimal_only c.if-n-lt10.true c.digit-d.ensures))

pub returns-then-n-lt10 : goal.returns-then-n-lt10
returns-then-n-lt10 c = wrote_as (decimal_only c.if-n-lt10.true c.digit-d.ensures) c.put_byte.ensures

pub put_byte-k-requires : goal.put_byte-k-requires
put_byte-k-requires c =
    first_fits (decimal_two c.if-n-lt10.false c.if-n-lt100.true c.digit-d.ensures c.digit.ensures) c.requires

pub slice_bounds-put_byte-count : goal.slice_bounds-put_byte-count
slice_bounds-put_byte-count c =
    let h = ends (decimal_two c.if-n-lt10.false c.if-n-lt100.true c.digit-d.ensures c.digit.ensures) c.requires c.put_byte-k.ensures in omega arith

pub slice_bounds-put_byte-start : goal.slice_bounds-put_byte-start
slice_bounds-put_byte-start c =
    let h = ends (decimal_two c.if-n-lt10.false c.if-n-lt100.true c.digit-d.ensures c.digit.ensures) c.requires c.put_byte-k.ensures in search rules

pub put_byte-requires-then-n-lt100 : goal.put_byte-requires-then-n-lt100
put_byte-requires-then-n-lt100 c =
    rest_fits (decimal_two c.if-n-lt10.false c.if-n-lt100.true c.digit-d.ensures c.digit.ensures) c.requires c.put_byte-k.ensures

pub returns-then-n-lt100 : goal.returns-then-n-lt100
returns-then-n-lt100 c =
    both_wrote (decimal_two c.if-n-lt10.false c.if-n-lt100.true c.digit-d.ensures c.digit.ensures) c.requires c.put_byte-k.ensures c.put_byte-then-n-lt100.ensures
