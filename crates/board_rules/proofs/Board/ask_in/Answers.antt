use mathlib.Core.Path.{sym, ◌∙◌}
use Rattle.plan.specs.JudgeLaws.{clear_test}
use Rattle.board_reserves.specs.SupplyLaws.{known_range}
use Rattle.board_rules.specs.BoardLaws.{ask_by}
use Rattle.board_rules.specs.Lent.{board_of}
use Rattle.board_rules.proofs.LentLaws.{may_in, fault_in}
use Rattle.board_rules.proofs.Board.ask_in.Goals as goal

pub may_have-may-requires : goal.may_have-may-requires
may_have-may-requires c =
    let a = c.args in
    let r = known_range a.plan.now.view.now a.v a.n a.m (clear_test _ _ _ (sym c.ask_fault-fault.ensures ∙ c.in-Ok.is)) in
    (r.high_v, r.high_n)

pub ask_sure-requires : goal.ask_sure-requires
ask_sure-requires c =
    let a = c.args in record {
      stopped_len = c.requires;
      m_value = (sym (fault_in a.plan.now.policy a.plan.now.overrun a.plan.now.view.now (board_of a.left.now a.over.now a.stopped.now a.holder.now a.waits.now) a.v a.n a.m) ∙ sym c.ask_fault-fault.ensures ∙ c.in-Ok.is, c.may_have-may.ensures ∙ may_in a.plan.now.policy a.plan.now.overrun a.plan.now.view.now (board_of a.left.now a.over.now a.stopped.now a.holder.now a.waits.now) a.v a.n a.m);
    }

pub returns-in-Err : goal.returns-in-Err
returns-in-Err c =
    let a = c.args in
    sym (ask_by a.plan.now.policy a.plan.now.overrun a.plan.now.view.now (board_of a.left.now a.over.now a.stopped.now a.holder.now a.waits.now) a.v a.n a.m (sym c.ask_fault-fault.ensures ∙ c.in-Err.is))
