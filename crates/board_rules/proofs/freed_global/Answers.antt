use Rattle.board_rules.specs.Names.{in_v, in_m}
use Rattle.board_rules.specs.Lent.{board_of}
use Rattle.board_rules.specs.BoardLaws.{global_next}
use Rattle.board_rules.proofs.LentLaws.{global_told}
use Rattle.board_rules.proofs.freed_global.Goals as goal

pub returns : goal.returns
returns c = λ o os own k. let a = c.args in
    let q = c.requires in
    rw c.next_of.ensures
    (global_told a.policy o a.view.now a.left.now os a.stopped.now a.holder.now a.waits.now q.4 k a.v a.m (in_v q.0 q.1) (in_m q.2 q.3) own _
    (rw (c.waiter_n-n.ensures.0, c.waiter-w.ensures.0) (global_next (board_of a.left.now os a.stopped.now a.holder.now a.waits.now) a.m))
    (c.hand.ensures a.left.now os a.stopped.now) c.settle.ensures)
