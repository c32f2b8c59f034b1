-- `exports_write::policy_from` meets its contract.
use Rattle.exports_write.specs.Numbers.{policy_some}
use Rattle.exports_write.proofs.policy_from.Goals as goal

pub returns-else-n-eq0 : goal.returns-else-n-eq0
returns-else-n-eq0 c = policy_some _ c.if-n-eq0.false
