-- `text_lines::number_if` meets its contract.
use Rattle.laws.specs.Choice.{when}
use Rattle.text_lines.proofs.number_if.Goals as goal

pub returns-then-on : goal.returns-then-on
unfolding when
returns-then-on c = rw c.if-on.true c.number.ensures

pub returns-else-on : goal.returns-else-on
unfolding when
returns-else-on c = rw c.if-on.false
