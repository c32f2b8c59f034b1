use Rattle.judge_seen.proofs.Laws.{mutex_told}
use Rattle.judge_seen.proofs.after_mutex.Goals as goal

pub returns : goal.returns
returns c =
    let a = c.args in
    mutex_told a.q a.t a.m a.owner c.put.ensures
