use Prim.Native.Nat.{◌-◌}
use lib.ListN.{set}
use Rattle.board_rules.specs.Names.{in_v, in_m}
use Rattle.board_rules.specs.Lent.{board_of}
use Rattle.board_rules.specs.BoardLaws.{local_next}
use Rattle.board_rules.proofs.LentLaws.{local_told}
use Rattle.board_rules.proofs.freed_local.Goals as goal

pub returns : goal.returns
returns c = λ o os k. let a = c.args in
    let q = c.requires in
    rw c.next_of.ensures
    (local_told a.policy o a.view.now a.left.now os a.stopped.now a.holder.now a.waits.now q.5 k a.v a.m (in_v q.0 q.1) (in_m q.2 q.3) q.4 _
    (rw (c.next_local-n.ensures.0, c.put_holder.ensures) (local_next a.policy o a.view.now (board_of a.left.now os a.stopped.now (set a.holder.now (a.m - 1) 0) a.waits.now) a.v))
    (rw c.put_holder.ensures at (c.grant.ensures a.left.now os a.stopped.now)) c.settle.ensures)
