-- `work` meets its contract.
use Prim.Native.Nat.{◌<◌}
use mathlib.Core.Path.{sym, subst, ◌∙◌}
use Rattle.clock_uses.specs.Making.{made_length}
use Rattle.clock_uses.specs.Using.{going_marked_any, going_vcpu, use_room, within_result, UsedOne, used_one}
use Rattle.clock_works.specs.Worked.{work_uses, use_fits, over_fits, free_fits, work_frees, more_fits, work_hands, work_result}
use Rattle.clock_works.proofs.work.Goals as goal
use Rattle.clock_works.proofs.work.Goals.{Joined-figure-gt1, then-figure-gt1, else-figure-gt1}

-- where the two ways meet the tick is used
used_now : (c : Joined-figure-gt1) → (let a = c.args in UsedOne a.plan.now.policy a.plan.now.overrun a.plan.now.view.now a.times.now a.left.now a.over.now a.stopped.now a.holder.now a.waits.now a.marks.now a.on a.t a.v a.out.now a.at c.if-figure-gt1.left c.if-figure-gt1.over c.if-figure-gt1.stopped c.if-figure-gt1.marks c.if-figure-gt1.out c.if-figure-gt1.used)
used_now c =
    let a = c.args in
    let q = c.requires in
    elim c.if-figure-gt1.branch [
      | then-figure-gt1 w ↦
          used_one a.plan.now.policy a.plan.now.overrun a.plan.now.view.now a.times.now a.left.now a.over.now a.stopped.now a.holder.now a.waits.now a.marks.now a.on a.t a.v a.out.now a.at
          (within_result q.going.0 a.v {y = w.use_within-a.result} (w.use_within-a.ensures a.waits.now) a.on a.t a.out.now a.at (subst (λ y. 1 < y) c.figure.ensures w.if-figure-gt1.true) w.tell-used.ensures.value w.tell-used.ensures.out_after)
          w.left-is w.over-is w.stopped-is w.marks-is w.out-is w.used-is
      | else-figure-gt1 w ↦
          used_one a.plan.now.policy a.plan.now.overrun a.plan.now.view.now a.times.now a.left.now a.over.now a.stopped.now a.holder.now a.waits.now a.marks.now a.on a.t a.v a.out.now a.at
          (w.use_one-used.ensures.going, (w.use_one-used.ensures.made, w.use_one-used.ensures.marks_unchanged)) w.left-is w.over-is w.stopped-is w.marks-is w.out-is w.used-is
    ]

pub use_within-a-requires : goal.use_within-a-requires
use_within-a-requires c =
    let g = c.requires.going.0 in
    let s = g.running.shaped in
    let l = c.if-figure-gt1.true in
    let e = c.figure.ensures in
    let m = subst (λ y. 1 < y) e l in
    (s.left_long, s.over_long, s.stopped_long, λ ws. going_marked_any g _ ws, going_vcpu g c.args.v c.requires.going.1.worker.chosen.v_in m, m)

pub tell-used-requires : goal.tell-used-requires
tell-used-requires c =
    let a = c.args in
    let q = c.requires in
    let u = c.use_within-a in
    use_room q.going.0 a.v {y = u.result} (u.ensures a.waits.now) a.on a.t a.out.now a.at (use_fits q.going.0 a.v a.n q.going.1 a.on a.t a.out.now a.at q.room_at)

pub use_one-used-requires : goal.use_one-used-requires
use_one-used-requires c =
    let a = c.args in
    let q = c.requires in
    let i = q.going.1.worker.chosen.v_in in
    record { v_nonzero = (i.from, i.to, q.going.0, work_uses q.going.0 a.v a.n q.going.1 a.on a.t a.out.now a.at q.room_at); room_at = use_fits q.going.0 a.v a.n q.going.1 a.on a.t a.out.now a.at q.room_at }

pub over-m-requires : goal.over-m-requires
over-m-requires c =
    let a = c.args in
    let q = c.requires in
    let i = q.going.1.worker.chosen.v_in in
    let j = q.going.1.worker.chosen.n_in in
    let u = used_now (goal.at.over-m-requires c).Joined-figure-gt1 in
    (i.from, i.to, j.from, j.to, over_fits q.going.0 a.v a.n q.going.1 a.on a.t a.out.now a.at q.room_at u.going u.made u.done_same)

pub freeing-freed-requires : goal.freeing-freed-requires
freeing-freed-requires c =
    let a = c.args in
    let q = c.requires in
    let i = q.going.1.worker.chosen.v_in in
    let j = q.going.1.worker.chosen.n_in in
    let u = used_now (goal.at.freeing-freed-requires c).Joined-figure-gt1 in
    let m = c.over-m.result in
    let e = c.over-m.ensures in record { v_nonzero = (i.from, i.to, j.from, j.to, u.going, work_frees q.going.0 a.v a.n q.going.1 a.on a.t a.out.now a.at q.room_at u.going u.made u.done_same m e); room_at = free_fits q.going.0 a.v a.n q.going.1 a.on a.t a.out.now a.at q.room_at u.going u.made u.done_same m e }

pub one_more-requires : goal.one_more-requires
one_more-requires c =
    let a = c.args in
    let q = c.requires in
    let u = used_now (goal.at.one_more-requires c).Joined-figure-gt1 in
    let f = c.freeing-freed in
    let m = c.over-m in
    more_fits q.going.0 a.v a.n q.going.1 a.on a.t a.out.now a.at q.room_at u.going u.made u.done_same m.result m.ensures {ss₂ = f.new.stopped} {hs₂ = f.new.holder} {ws₂ = f.new.waits} {k₂ = f.new.marks} f.ensures.mirrors {a₂ = f.new.out} {w₂ = f.result.at} f.ensures.made f.ensures.marks_unchanged

pub shape_of-left : goal.shape_of-left
shape_of-left c = (used_now (goal.at.shape_of-left c).Joined-figure-gt1).going.running.shaped.left_long ∙ sym c.requires.going.0.running.shaped.left_long

pub shape_of-over : goal.shape_of-over
shape_of-over c = (used_now (goal.at.shape_of-over c).Joined-figure-gt1).going.running.shaped.over_long ∙ sym c.requires.going.0.running.shaped.over_long

pub shape_of-stopped : goal.shape_of-stopped
shape_of-stopped c = c.freeing-freed.auto.stopped ∙ (used_now (goal.at.shape_of-stopped c).Joined-figure-gt1).going.running.shaped.stopped_long ∙ sym c.requires.going.0.running.shaped.stopped_long

pub shape_of-holder : goal.shape_of-holder
shape_of-holder c = c.freeing-freed.auto.holder

pub shape_of-waits : goal.shape_of-waits
shape_of-waits c = c.freeing-freed.auto.waits

pub shape_of-marks : goal.shape_of-marks
shape_of-marks c = c.one_more.auto.marks ∙ c.freeing-freed.auto.marks ∙ (used_now (goal.at.shape_of-marks c).Joined-figure-gt1).going.mirrors.sized.long ∙ sym c.requires.going.0.mirrors.sized.long

pub returns : goal.returns
returns c =
    let a = c.args in
    let q = c.requires in
    let u = used_now (goal.at.returns c).Joined-figure-gt1 in
    let f = c.freeing-freed in
    let m = c.over-m in
    let w = work_result q.going.0 a.v a.n q.going.1 a.on a.t a.out.now a.at q.room_at u.going u.made u.done_same m.result m.ensures {ss₂ = f.new.stopped} {hs₂ = f.new.holder} {ws₂ = f.new.waits} {k₂ = f.new.marks} f.ensures.mirrors {a₂ = f.new.out} {w₂ = f.result.at} f.ensures.made f.ensures.marks_unchanged c.one_more.ensures in record { going_2 = w.0; made = w.1.0; marks_after = w.1.1; handed_value = work_hands q.going.0 a.v a.n q.going.1 a.on a.t a.out.now a.at q.room_at u.going u.made u.done_same m.result m.ensures f.ensures.handed_value }

pub shape_of-out : goal.shape_of-out
shape_of-out c = made_length (returns c).made c.requires.room_at
