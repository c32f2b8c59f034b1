use Rattle.judge_seen.proofs.Laws.{vcpu_told}
use Rattle.judge_seen.proofs.after_vcpu.Goals as goal

pub returns : goal.returns
returns c =
    let a = c.args in
    vcpu_told a.q a.t a.v a.guest c.put.ensures c.put-2.ensures
