use Rattle.given_test.specs.RowLaws.{owner_some}
use Rattle.given_test.proofs.owner_kind.Goals as goal

pub returns-else-owner-eq0 : goal.returns-else-owner-eq0
returns-else-owner-eq0 c = owner_some _ c.if-owner-eq0.false
