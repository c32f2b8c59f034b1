-- `text_numbers::digit_of` meets its contract.
use borrow.Author.Tests.{lt-ltb, le-ltb, le-leb, lt-leb}
use Rattle.laws.specs.Decimal.{digit_of}
use Rattle.text_numbers.proofs.digit_of.Goals as goal

pub returns-then-x-lt48 : goal.returns-then-x-lt48
unfolding digit_of
returns-then-x-lt48 c = simp (lt-ltb _ _ c.if-x-lt48.true)

pub returns-then-x-le57 : goal.returns-then-x-le57
unfolding digit_of
returns-then-x-le57 c = simp (le-ltb _ _ c.if-x-lt48.false, le-leb _ _ c.if-x-le57.true)

pub returns-else-x-le57 : goal.returns-else-x-le57
unfolding digit_of
returns-else-x-le57 c = simp (le-ltb _ _ c.if-x-lt48.false, lt-leb _ _ c.if-x-le57.false)
