use mathlib.Core.Path.{sym, ◌∙◌}
use Rattle.plan.specs.JudgeLaws.{clear_test}
use Rattle.board_reserves.specs.SupplyLaws.{vcpu_range}
use Rattle.board_rules.specs.BoardLaws.{use_by}
use Rattle.board_rules.specs.Lent.{board_of}
use Rattle.board_rules.proofs.Board.use_in.Goals as goal

pub used-requires : goal.used-requires
used-requires c = let a = c.args in
    let q = c.requires in
    let r = vcpu_range a.plan.now.view.now a.v (clear_test _ _ _ (sym c.use_fault-fault.ensures ∙ c.in-Ok.is)) in (r.0, r.1, q.0, q.1, q.2)

pub returns-in-Ok : goal.returns-in-Ok
returns-in-Ok c = λ ws. let a = c.args in
    c.used.ensures a.plan.now.overrun ws (c.requires.3 ws)
    ∙ sym (use_by a.plan.now.policy a.plan.now.overrun a.plan.now.view.now (board_of a.left.now a.over.now a.stopped.now a.holder.now ws) a.v a.t (sym c.use_fault-fault.ensures ∙ c.in-Ok.is))

pub returns-in-Err : goal.returns-in-Err
returns-in-Err c = λ ws. let a = c.args in
    sym (use_by a.plan.now.policy a.plan.now.overrun a.plan.now.view.now (board_of a.left.now a.over.now a.stopped.now a.holder.now ws) a.v a.t (sym c.use_fault-fault.ensures ∙ c.in-Err.is))
