use Rattle.judge_hosts.proofs.Laws.{reach_told}
use Rattle.judge_hosts.proofs.reached.Goals as goal

pub returns : goal.returns
returns c =
    let a = c.args in
    reach_told a.opens.now a.guest a.v a.owner a.m c.within.ensures c.slot.ensures c.at-open.ensures
