-- `renewed` meets its contract.
use Rattle.clock_nexts.specs.WriteLaws.{renewed_now, renewed_not}
use Rattle.clock_nexts.proofs.renewed.Goals as goal

pub returns-then-y-t : goal.returns-then-y-t
returns-then-y-t c = renewed_now _ _ _ c.if-y-t.true

pub returns-else-y-t : goal.returns-else-y-t
returns-else-y-t c = renewed_not _ _ _ c.if-y-t.false
