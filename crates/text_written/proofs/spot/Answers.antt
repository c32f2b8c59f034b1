-- `text_written::spot` meets its contract.
use borrow.Author.Tests.{lt-ltb, le-ltb}
use Rattle.laws.specs.Choice.{when}
use Rattle.text_written.specs.Code.{spot_of}
use Rattle.text_written.proofs.spot.Goals as goal

pub returns-then-x-lt-BAD : goal.returns-then-x-lt-BAD
unfolding spot_of when
returns-then-x-lt-BAD c = rw (c.if-on.true, lt-ltb _ _ c.if-x-lt-BAD.true)

pub returns-else-x-lt-BAD : goal.returns-else-x-lt-BAD
unfolding spot_of when
returns-else-x-lt-BAD c = rw (c.if-on.true, le-ltb _ _ c.if-x-lt-BAD.false)

pub returns-else-on : goal.returns-else-on
unfolding spot_of when
returns-else-on c = rw c.if-on.false
