use mathlib.Core.Path.{sym}
use Rattle.board_rules.specs.BoardLaws.{next_none, next_some}
use Rattle.board_rules.proofs.next_of.Goals as goal

pub returns-then-n-eq0 : goal.returns-then-n-eq0
returns-then-n-eq0 c = let a = c.args in sym (next_none a.v a.n c.if-n-eq0.true)

pub returns-else-n-eq0 : goal.returns-else-n-eq0
returns-else-n-eq0 c = let a = c.args in sym (next_some a.v a.n c.if-n-eq0.false)
