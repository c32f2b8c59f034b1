-- `first_next` meets its contract.
use Rattle.clock_firsts.specs.NextLaws.{first_some, first_never}
use Rattle.clock_firsts.proofs.first_next.Goals as goal

pub returns-then-p-gt0 : goal.returns-then-p-gt0
returns-then-p-gt0 c = first_some _ c.if-p-gt0.true

pub returns-else-p-gt0 : goal.returns-else-p-gt0
returns-else-p-gt0 c = first_never _ c.if-p-gt0.false
