use mathlib.Core.Path.{sym, ◌∙◌}
use Rattle.plan.specs.JudgeLaws.{clear_test}
use Rattle.board_reserves.specs.SupplyLaws.{known_range}
use Rattle.board_rules.specs.BoardLaws.{free_by}
use Rattle.board_rules.proofs.CompleteLaws.{free_own}
use Rattle.board_rules.specs.Lent.{board_of}
use Rattle.board_rules.proofs.Board.free_sure.Goals as goal

pub freed-requires : goal.freed-requires
freed-requires c =
    let a = c.args in
    let q = c.requires in
    let r = known_range a.plan.now.view.now a.v a.n a.m (clear_test _ _ _ q.m_value) in
    (r.low_v, r.high_v, r.low_m, r.high_m, q.stopped_len.0, q.stopped_len.1)

pub returns : goal.returns
returns c = λ os.
    let a = c.args in
    let q = c.requires in
    c.freed.ensures a.plan.now.overrun os (free_own a.plan.now.view.now (board_of a.left.now os a.stopped.now a.holder.now a.waits.now) a.v a.n a.m q.m_value) (q.stopped_len.2 os)
    ∙ sym (free_by a.plan.now.policy a.plan.now.overrun a.plan.now.view.now (board_of a.left.now os a.stopped.now a.holder.now a.waits.now) a.v a.n a.m q.m_value)
