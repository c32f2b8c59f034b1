use Rattle.board_rules.specs.Names.{in_v}
use Rattle.board_rules.proofs.LentLaws.{top_told}
use Rattle.board_rules.proofs.topped.Goals as goal

pub returns : goal.returns
returns c = λ p o hs ws k. let a = c.args in
    let q = c.requires in
    top_told p o a.view.now a.left.now a.over.now a.stopped.now hs ws q.4 k a.v c.sub-i.result (in_v q.0 q.1) q.2 q.3
    c.sub-i.ensures c.budget-b.ensures c.overrun-o.ensures
