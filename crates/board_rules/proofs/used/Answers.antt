use Rattle.board_rules.specs.Names.{in_v}
use Rattle.board_rules.proofs.LentLaws.{use_told}
use Rattle.board_rules.proofs.used.Goals as goal

pub returns : goal.returns
returns c = λ o ws k. let a = c.args in
    let q = c.requires in
    use_told a.policy o a.view.now a.left.now a.over.now a.stopped.now a.holder.now ws q.4 k a.v a.t c.sub-i.result (in_v q.0 q.1) q.2 q.3
    c.sub-i.ensures c.budget_after-b.ensures c.overrun_after-o.ensures c.settle.ensures
