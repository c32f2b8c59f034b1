use mathlib.Core.Path.{◌∙◌}
use Rattle.board_rules.specs.BoardLaws.{next_none}
use Rattle.board_rules.proofs.LentLaws.{grant_next}
use Rattle.board_rules.specs.Lent.{board_of}
use Rattle.board_rules.proofs.grant.Goals as goal

pub returns-then-n-eq0 : goal.returns-then-n-eq0
returns-then-n-eq0 c = λ ls os ss. let a = c.args in rw (next_none a.v a.n c.if-n-eq0.true)

pub returns : goal.returns
returns c = λ ls os ss. let a = c.args in
    c.hand.ensures ls os ss ∙ grant_next (board_of ls os ss a.holder.now a.waits.now) a.v a.n c.if-n-eq0.false c.wait-m.ensures.0
