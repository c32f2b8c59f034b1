use Rattle.board_rules.specs.BoardLaws.{next_none, next_some}
use Rattle.board_rules.proofs.hand.Goals as goal

pub returns-then-n-eq0 : goal.returns-then-n-eq0
returns-then-n-eq0 c = λ ls os ss. let a = c.args in rw (c.put_holder.ensures, next_none a.v a.n c.if-n-eq0.true)

pub returns : goal.returns
returns c = λ ls os ss. let a = c.args in
    rw (c.put_wait.ensures, c.put_holder-2.ensures, c.seat.ensures.0, next_some a.v a.n c.if-n-eq0.false)
