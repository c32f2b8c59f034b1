-- `text_numbers::number` meets its contract: each return rewrites with the tests that led there.
use borrow.Author.Tests.{le-leb, lt-leb}
use mathlib.Core.Path.{sym, ◌∙◌}
use Rattle.text_numbers.specs.NumberLaws.{number_code}
use Rattle.text_numbers.proofs.number.Goals as goal

pub returns-then-starts_well : goal.returns-then-starts_well
returns-then-starts_well c =
    simp (number_code, le-leb _ _ c.if-s-le7.true, sym c.starts_well.ensures ∙ c.if-starts_well.true) c.digits.ensures

pub returns-else-starts_well : goal.returns-else-starts_well
returns-else-starts_well c = simp (number_code, le-leb _ _ c.if-s-le7.true, sym c.starts_well.ensures ∙ c.if-starts_well.false)

pub returns-else-s-le7 : goal.returns-else-s-le7
returns-else-s-le7 c = simp (number_code, lt-leb _ _ c.if-s-le7.false)
