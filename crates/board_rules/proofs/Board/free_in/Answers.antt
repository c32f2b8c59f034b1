use mathlib.Core.Path.{sym, ◌∙◌}
use Rattle.board_rules.specs.BoardLaws.{free_by}
use Rattle.board_rules.specs.Lent.{board_of}
use Rattle.board_rules.proofs.Board.free_in.Goals as goal

pub free_sure-requires : goal.free_sure-requires
free_sure-requires c =
    record { stopped_len = c.requires; m_value = sym c.free_fault-fault.ensures ∙ c.in-Ok.is }

pub returns-in-Err : goal.returns-in-Err
returns-in-Err c = λ os. let a = c.args in
    sym (free_by a.plan.now.policy a.plan.now.overrun a.plan.now.view.now (board_of a.left.now os a.stopped.now a.holder.now a.waits.now) a.v a.n a.m (sym c.free_fault-fault.ensures ∙ c.in-Err.is))
