-- `jitter_of` meets its contract.
use Rattle.laws.specs.Choice.{when}
use Rattle.times_rows.proofs.jitter_of.Goals as goal

pub returns-then-d : goal.returns-then-d
unfolding when
returns-then-d c = rw c.if-d.true

pub returns-else-d : goal.returns-else-d
unfolding when
returns-else-d c = rw c.if-d.false
