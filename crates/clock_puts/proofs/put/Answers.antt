-- `put` meets its contract.
use Rattle.clock_puts.specs.PutLaws.{put_on, put_off}
use Rattle.clock_puts.proofs.put.Goals as goal

pub with-requires : goal.with-requires
with-requires c = (c.requires.1, c.requires.2, c.requires.0)

pub without-requires : goal.without-requires
without-requires c = (c.requires.1, c.requires.2)

pub returns-then-on : goal.returns-then-on
returns-then-on c = put_on c.if-on.true c.with.ensures

pub returns-else-on : goal.returns-else-on
returns-else-on c = put_off c.requires.0 c.if-on.false c.without.ensures
