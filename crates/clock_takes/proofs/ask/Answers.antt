-- `clock_takes::ask` meets its contract.
use mathlib.Core.Path.{◌∙◌}
use Rattle.board_rules.specs.PlanViews.{facts}
use Rattle.board_rules.specs.Board.{step}
use Rattle.board_rules.specs.declared.Event.TheVariants.{Ask}
use Rattle.clock_marks.specs.Marks.{board_of}
use Rattle.clock_passes.specs.Passing.{may_by}
use Rattle.clock_takes.specs.AskLaws.{answer_room, answer_kept}
use Rattle.clock_takes.proofs.ask.Goals as goal

pub may_have-may-requires : goal.may_have-may-requires
may_have-may-requires c = let q = c.requires.may_ask in (q.sized, q.v_in.from, q.v_in.to)

pub ask_sure-a-requires : goal.ask_sure-a-requires
ask_sure-a-requires c =
    let a = c.args in
    let q = c.requires.may_ask in record {
      stopped_len = (q.shaped.stopped_long, q.shaped.waits_long, q.marked);
      m_value = (q.no_fault, ◌∙◌ {b = may_by a.plan.now.view.now a.holder.now a.marks.now a.v a.n a.m} c.may_have-may.ensures q.may);
    }

pub tell-w-requires : goal.tell-w-requires
tell-w-requires c =
    let a = c.args in
    let u = c.ask_sure-a in
    answer_room {b = board_of a.left.now a.over.now a.stopped.now u.new.holder u.new.waits}
    {u = step (facts a.plan.now) (board_of a.left.now a.over.now a.stopped.now a.holder.now a.waits.now) (Ask a.v a.n a.m)} u.ensures
    a.on a.t (Ask a.v a.n a.m) a.out.now a.at c.requires.room_at

pub keep-requires : goal.keep-requires
keep-requires c =
    let q = c.requires.may_ask in
    (q.sized, q.v_in.from, q.v_in.to, q.n_in.from, q.n_in.to)

pub returns : goal.returns
returns c =
    let a = c.args in
    let u = c.ask_sure-a in
    let t = c.tell-w in
    let k = c.keep in
    answer_kept {p = a.plan.now.policy} {c = a.plan.now.overrun} {t = a.plan.now.view.now} {ls = a.left.now} {os = a.over.now} {ss = a.stopped.now} {v = a.v} {n = a.n} {m = a.m} {hs = a.holder.now} {ws = a.waits.now} {hs' = u.new.holder} {ws' = u.new.waits} {k = a.marks.now} {k' = k.new.marks} {o = a.out.now} {o' = t.new.out} u.ensures c.is_wait-still.ensures k.ensures t.ensures.out_after t.ensures.value
