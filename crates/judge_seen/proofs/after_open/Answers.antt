use Rattle.judge_seen.proofs.Laws.{open_told}
use Rattle.judge_seen.proofs.after_open.Goals as goal

pub returns : goal.returns
returns c =
    let a = c.args in
    open_told a.q a.t a.m a.guest c.slot.ensures c.put.ensures
