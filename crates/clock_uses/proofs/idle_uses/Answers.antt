-- `idle_uses` meets its contract. The loop's invariant: the uses of the VCPUs up to some number are made, and the others are in the set.
use Prim.Native.Nat.{◌<◌}
use mathlib.Core.Path.{refl, sym, subst, ◌∙◌}
use Rattle.clock_uses.specs.Idling.{idling_first, idling_taken, idling_all, idling_more, idling_less, next_in_law, next_taken, next_room, next_length}
use Rattle.clock_uses.specs.Using.{going_marked_any, going_vcpu, use_room, within_result, UsedOne, used_one}
use Rattle.clock_uses.proofs.idle_uses.Goals as goal
use Rattle.clock_uses.proofs.idle_uses.Goals.{then-figure-gt1, else-figure-gt1}

pub idlers-rest-requires : goal.idlers-rest-requires
idlers-rest-requires c = let q = c.requires.c_bound in (q.2.mirrors.sized, q.0)

pub loop-rest-init : goal.loop-rest-init
loop-rest-init c =
    let q = c.requires.c_bound in
    let a = c.args in
    (idling_first q.2 q.1 a.on a.t a.c _ a.out.now a.at c.idlers-rest.ensures.0 c.idlers-rest.ensures.1, q.2, refl, refl)

pub lowest_in-v-requires : goal.lowest_in-v-requires
lowest_in-v-requires c = c.loop-rest.invariant.0.is_set

pub use_within-a-requires : goal.use_within-a-requires
use_within-a-requires c =
    let i = c.loop-rest.invariant in
    let nz = c.loop-rest-test.true in
    let g = i.1 in
    let s = g.running.shaped in
    let v = next_in_law i.0 nz _ c.lowest_in-v.ensures.0 in
    let m = subst (λ y. 1 < y) c.figure.ensures c.if-figure-gt1.true in
    (s.left_long, s.over_long, s.stopped_long, λ ws. going_marked_any g _ ws, going_vcpu g _ v m, m)

pub tell-w-requires : goal.tell-w-requires
tell-w-requires c =
    let a = c.args in
    let l = c.loop-rest in
    let i = l.invariant in
    let nz = c.loop-rest-test.true in
    let u = c.use_within-a in
    let n = c.lowest_in-v in
    use_room i.1 n.result {y = u.result} (u.ensures a.waits.now) a.on a.t l.out l.w (next_room i.0 nz n.result n.ensures.0 c.requires.room_at)

pub use_one-w-requires : goal.use_one-w-requires
use_one-w-requires c =
    let i = c.loop-rest.invariant in
    let nz = c.loop-rest-test.true in
    let l = c.lowest_in-v.ensures.0 in
    let v = next_in_law i.0 nz _ l in
    record { v_nonzero = (v.from, v.to, i.1, next_taken i.0 nz _ l (idling_taken c.requires.c_bound.2 c.args.c)); room_at = next_room i.0 nz _ l c.requires.room_at }

pub without-rest-requires : goal.without-rest-requires
without-rest-requires c =
    let i = c.loop-rest.invariant in
    let v = next_in_law i.0 c.loop-rest-test.true _ c.lowest_in-v.ensures.0 in
    (v.from, v.to)

pub loop-rest-smaller : goal.loop-rest-smaller
loop-rest-smaller c = idling_less c.loop-rest.invariant.0 c.loop-rest-test.true _ c.lowest_in-v.ensures.0 c.without-rest.ensures

pub loop-rest-preserved : goal.loop-rest-preserved
loop-rest-preserved c =
    let i = c.loop-rest.invariant in
    let nz = c.loop-rest-test.true in
    let a = c.args in
    let k = c.loop-rest in
    let v = c.lowest_in-v.result in
    let u : UsedOne a.plan.now.policy a.plan.now.overrun a.plan.now.view.now a.times.now k.left k.over k.stopped a.holder.now a.waits.now k.marks a.on a.t v k.out k.w c.if-figure-gt1.left c.if-figure-gt1.over c.if-figure-gt1.stopped c.if-figure-gt1.marks c.if-figure-gt1.out c.if-figure-gt1.w =
    elim c.if-figure-gt1.branch [
      | then-figure-gt1 w ↦
          used_one a.plan.now.policy a.plan.now.overrun a.plan.now.view.now a.times.now k.left k.over k.stopped a.holder.now a.waits.now k.marks a.on a.t v k.out k.w
          (within_result k.invariant.1 v {y = w.use_within-a.result} (w.use_within-a.ensures a.waits.now) a.on a.t k.out k.w (subst (λ y. 1 < y) c.figure.ensures w.if-figure-gt1.true) w.tell-w.ensures.value w.tell-w.ensures.out_after)
          w.left-is w.over-is w.stopped-is w.marks-is w.out-is w.w-is
      | else-figure-gt1 w ↦
          used_one a.plan.now.policy a.plan.now.overrun a.plan.now.view.now a.times.now k.left k.over k.stopped a.holder.now a.waits.now k.marks a.on a.t v k.out k.w
          (w.use_one-w.ensures.going, (w.use_one-w.ensures.made, w.use_one-w.ensures.marks_unchanged)) w.left-is w.over-is w.stopped-is w.marks-is w.out-is w.w-is
    ]
    in
    let l = c.lowest_in-v.ensures.0 in
    let r = c.requires.room_at in
    (idling_more i.0 nz _ l r u.made c.without-rest.ensures, u.going, u.done_same ∙ i.2, next_length i.0 nz _ l r u.made ∙ i.3)

pub shape_of-left : goal.shape_of-left
shape_of-left c = c.loop-rest.invariant.1.running.shaped.left_long ∙ sym c.requires.c_bound.2.running.shaped.left_long

pub shape_of-over : goal.shape_of-over
shape_of-over c = c.loop-rest.invariant.1.running.shaped.over_long ∙ sym c.requires.c_bound.2.running.shaped.over_long

pub shape_of-stopped : goal.shape_of-stopped
shape_of-stopped c = c.loop-rest.invariant.1.running.shaped.stopped_long ∙ sym c.requires.c_bound.2.running.shaped.stopped_long

pub shape_of-marks : goal.shape_of-marks
shape_of-marks c = c.loop-rest.invariant.1.mirrors.sized.long ∙ sym c.requires.c_bound.2.mirrors.sized.long

pub shape_of-out : goal.shape_of-out
shape_of-out c = c.loop-rest.invariant.3

pub returns : goal.returns
returns c =
    let i = c.loop-rest.invariant in record { going = i.1; made = idling_all i.0 c.loop-rest-test.false; marks_unchanged = i.2 }
