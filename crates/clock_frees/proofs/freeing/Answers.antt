-- `freeing` meets its contract.
use mathlib.Core.Path.{sym, subst}
use Rattle.board_rules.specs.Lent.{board_of}
use Rattle.board_rules.specs.PlanViews.{facts}
use Rattle.clock_uses.specs.Using.{going_marked_any}
use Rattle.clock_hands.specs.Freed.{NextIn, free_none, free_clear, free_named, free_got, free_room, free_one}
use Rattle.clock_frees.specs.Handing.{free_none_hands, free_hands}
use Rattle.clock_frees.proofs.freeing.Goals as goal

pub returns-then-m-eq0 : goal.returns-then-m-eq0
returns-then-m-eq0 c =
    let a = c.args in
    let q = c.requires.v_nonzero in
    let r = free_none q.4 a.v a.n a.m (record { from = q.0; to = q.1 }) (record { from = q.2; to = q.3 }) q.5 a.on a.t a.out.now a.at c.if-m-eq0.true in record { mirrors = r.0; made = r.1.0; marks_unchanged = r.1.1; handed_value = free_none_hands (facts a.plan.now) (board_of a.left.now a.over.now a.stopped.now a.holder.now a.waits.now) a.v a.n a.m c.if-m-eq0.true }

pub free_sure-a-requires : goal.free_sure-a-requires
free_sure-a-requires c =
    let a = c.args in
    let q = c.requires.v_nonzero in
    let s = q.4.running.shaped in record { stopped_len = (s.stopped_long, s.waits_long, λ os. going_marked_any q.4 os _); m_value = free_clear q.4 a.v a.n a.m (record { from = q.0; to = q.1 }) (record { from = q.2; to = q.3 }) q.5 a.on a.t a.out.now a.at c.if-m-eq0.false }

pub after_free-requires : goal.after_free-requires
after_free-requires c =
    let a = c.args in
    let q = c.requires.v_nonzero in
    let u = c.free_sure-a in
    let e = u.ensures a.over.now in
    let nz = c.if-m-eq0.false in
    let d = c.next_in-next.ensures in
    let n = free_named q.4 a.v a.n a.m (record { from = q.0; to = q.1 }) (record { from = q.2; to = q.3 }) q.5 a.on a.t a.out.now a.at nz {ss' = u.new.stopped} {hs' = u.new.holder} {ws' = u.new.waits} {y = u.result} e in
    let h = free_got q.4 a.v a.n a.m (record { from = q.0; to = q.1 }) (record { from = q.2; to = q.3 }) q.5 a.on a.t a.out.now a.at nz {ss' = u.new.stopped} {hs' = u.new.holder} {ws' = u.new.waits} {y = u.result} e c.is_global-global.ensures d in
    (q.4.mirrors.sized, q.0, q.1, q.2, q.3, subst NextIn (sym d) n, h)

pub tell-w-requires : goal.tell-w-requires
tell-w-requires c =
    let a = c.args in
    let q = c.requires.v_nonzero in
    let u = c.free_sure-a in
    free_room q.4 a.v a.n a.m (record { from = q.0; to = q.1 }) (record { from = q.2; to = q.3 }) q.5 a.on a.t a.out.now a.at c.if-m-eq0.false {ss' = u.new.stopped} {hs' = u.new.holder} {ws' = u.new.waits} {y = u.result} (u.ensures a.over.now) c.requires.room_at

pub shape_of-stopped : goal.shape_of-stopped
shape_of-stopped c = c.free_sure-a.auto.stopped

pub shape_of-holder : goal.shape_of-holder
shape_of-holder c = c.free_sure-a.auto.holder

pub shape_of-waits : goal.shape_of-waits
shape_of-waits c = c.free_sure-a.auto.waits

pub shape_of-marks : goal.shape_of-marks
shape_of-marks c = c.after_free.auto.marks

pub shape_of-out : goal.shape_of-out
shape_of-out c = c.tell-w.auto.out

pub returns : goal.returns
returns c =
    let a = c.args in
    let q = c.requires.v_nonzero in
    let l = c.tell-w.ensures in
    let u = c.free_sure-a in
    let e = u.ensures a.over.now in
    let nz = c.if-m-eq0.false in
    let d = c.next_in-next.ensures in
    let r = free_one q.4 a.v a.n a.m (record { from = q.0; to = q.1 }) (record { from = q.2; to = q.3 }) q.5 a.on a.t a.out.now a.at nz {ss' = u.new.stopped} {hs' = u.new.holder} {ws' = u.new.waits} {y = u.result} e d c.after_free.ensures l.value l.out_after in record { mirrors = r.0; made = r.1.0; marks_unchanged = r.1.1; handed_value = free_hands (facts a.plan.now) (board_of a.left.now a.over.now a.stopped.now a.holder.now a.waits.now) a.v a.n a.m nz {y = u.result} {b' = board_of a.left.now a.over.now u.new.stopped u.new.holder u.new.waits} e d c.goes_on-handed.ensures }
