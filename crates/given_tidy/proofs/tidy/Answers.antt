use Rattle.given_tidy.specs.TestLaws.{tidy_few, tidy_many}
use Rattle.given_tidy.proofs.tidy.Goals as goal

pub returns-then-count-le-MAX_LOCKS : goal.returns-then-count-le-MAX_LOCKS
returns-then-count-le-MAX_LOCKS c = tidy_few _ _ c.cell-count.ensures c.if-count-le-MAX_LOCKS.true c.zero_from.ensures

pub returns-else-count-le-MAX_LOCKS : goal.returns-else-count-le-MAX_LOCKS
returns-else-count-le-MAX_LOCKS c = tidy_many _ _ c.cell-count.ensures c.if-count-le-MAX_LOCKS.false
