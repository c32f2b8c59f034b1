-- `exports_write::overrun_from` meets its contract.
use Rattle.exports_write.specs.Numbers.{overrun_some}
use Rattle.exports_write.proofs.overrun_from.Goals as goal

pub returns-else-n-eq0 : goal.returns-else-n-eq0
returns-else-n-eq0 c = overrun_some _ c.if-n-eq0.false
