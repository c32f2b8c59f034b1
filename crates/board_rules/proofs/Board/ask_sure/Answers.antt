use Rattle.board_rules.proofs.LentLaws.{sure_range, sure_granted, sure_waits}
use Rattle.board_rules.proofs.Board.ask_sure.Goals as goal

pub seat-requires : goal.seat-requires
seat-requires c =
    let a = c.args in
    let q = c.requires in
    let r = sure_range a.plan.now.policy a.plan.now.overrun a.plan.now.view.now a.left.now a.over.now a.stopped.now a.holder.now a.waits.now q.stopped_len.0 q.stopped_len.2 a.v a.n a.m q.m_value.0 in
    (r.high_v, r.high_n)

pub returns-then-may : goal.returns-then-may
returns-then-may c =
    let a = c.args in
    let q = c.requires in
    sure_granted a.plan.now.policy a.plan.now.overrun a.plan.now.view.now a.left.now a.over.now a.stopped.now a.holder.now a.waits.now q.stopped_len.0 q.stopped_len.2 a.v a.n a.m q.m_value.0 q.m_value.1 c.if-may.true c.seat.ensures.0 c.put_holder.ensures

pub put_wait-requires : goal.put_wait-requires
put_wait-requires c =
    let a = c.args in
    let q = c.requires in
    let r = sure_range a.plan.now.policy a.plan.now.overrun a.plan.now.view.now a.left.now a.over.now a.stopped.now a.holder.now a.waits.now q.stopped_len.0 q.stopped_len.2 a.v a.n a.m q.m_value.0 in
    (r.high_v, r.high_n, r.high_m, q.stopped_len.1)

pub returns : goal.returns
returns c =
    let a = c.args in
    let q = c.requires in
    sure_waits a.plan.now.policy a.plan.now.overrun a.plan.now.view.now a.left.now a.over.now a.stopped.now a.holder.now a.waits.now q.stopped_len.0 q.stopped_len.2 a.v a.n a.m q.m_value.0 q.m_value.1 c.if-may.false c.put_wait.ensures
