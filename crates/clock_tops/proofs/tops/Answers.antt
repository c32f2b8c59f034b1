-- `tops` meets its contract: of the VCPUs that may be due, the tops of those that are no longer in the set are made.
use mathlib.Core.Path.{sym, ◌∙◌}
use native.Mathlib.Omega.{arith}
use Rattle.board_keeps.specs.Good.{good_marked}
use Rattle.clock_tops.specs.TopLaws.{topped_shaped, topped_good, topped_length}
use Rattle.clock_tops.specs.WalkLaws.{walk_first, walk_in, walk_less, walk_leave, walk_room, walk_take, walk_all}
use Rattle.clock_tops.specs.MadeLaws.{fair_of, good_of, choice_of}
use Rattle.clock_tops.proofs.tops.Goals as goal
use Rattle.clock_tops.proofs.tops.Goals.{then-is_due, else-is_due}

pub loop-rest-init : goal.loop-rest-init
loop-rest-init c = let p = c.requires in walk_first p.3 p.0.mirrors

pub lowest_in-v-requires : goal.lowest_in-v-requires
lowest_in-v-requires c = c.loop-rest.invariant.is_set

pub overflow_sub-v : goal.overflow_sub-v
overflow_sub-v c = let i = walk_in c.loop-rest.invariant c.loop-rest-test.true c.lowest_in-v.ensures.0 in let f = i.from in omega arith

pub is_due-requires : goal.is_due-requires
is_due-requires c =
    let i = walk_in c.loop-rest.invariant c.loop-rest-test.true c.lowest_in-v.ensures.0 in
    let f = i.from in
    let m = i.to in
    (c.requires.1, omega arith)

pub top-w-requires : goal.top-w-requires
top-w-requires c =
    let p = c.requires in
    let g = p.0 in
    let h = c.loop-rest.invariant in
    let nz = c.loop-rest-test.true in
    let e = c.lowest_in-v.ensures.0 in
    let i = walk_in h nz e in
    let s = topped_shaped _ _ _ _ _ _ _ _ _ h.topped g.running.shaped in (
      s.left_long,
      s.over_long,
      s.stopped_long,
      good_marked _ _ (topped_good _ _ _ _ _ _ _ _ _ h.topped (fair_of _ _ g.paced.fair) g.running.shaped (good_of _ _ _ g.running.is_good)),
      h.topped.mirrors.sized,
      i.from,
      i.to,
      walk_room h nz e c.is_due.ensures c.if-is_due.true p.2,
    )

pub without-rest-requires : goal.without-rest-requires
without-rest-requires c = let i = walk_in c.loop-rest.invariant c.loop-rest-test.true c.lowest_in-v.ensures.0 in (i.from, i.to)

pub loop-rest-smaller : goal.loop-rest-smaller
loop-rest-smaller c = walk_less c.loop-rest.invariant c.loop-rest-test.true c.lowest_in-v.ensures.0 c.without-rest.ensures

pub loop-rest-preserved : goal.loop-rest-preserved
loop-rest-preserved c =
    let p = c.requires in
    let g = p.0 in
    let h = c.loop-rest.invariant in
    let nz = c.loop-rest-test.true in
    let e = c.lowest_in-v.ensures.0 in
    elim c.if-is_due.branch [
      | then-is_due w ↦ rw (w.left-is, w.over-is, w.stopped-is, w.marks-is, w.out-is, w.w-is)
          (walk_take h nz e c.is_due.ensures w.if-is_due.true (fair_of _ _ g.paced.fair) g.running.shaped (good_of _ _ _ g.running.is_good) p.2 (choice_of _ _ _) w.top-w.ensures c.without-rest.ensures)
      | else-is_due w ↦ rw (w.left-is, w.over-is, w.stopped-is, w.marks-is, w.out-is, w.w-is) (walk_leave h nz e c.is_due.ensures w.if-is_due.false c.without-rest.ensures)
    ]

pub shape_of-left : goal.shape_of-left
shape_of-left c =
    let s = c.requires.0.running.shaped in
    (topped_shaped _ _ _ _ _ _ _ _ _ c.loop-rest.invariant.topped s).left_long ∙ sym s.left_long

pub shape_of-over : goal.shape_of-over
shape_of-over c =
    let s = c.requires.0.running.shaped in
    (topped_shaped _ _ _ _ _ _ _ _ _ c.loop-rest.invariant.topped s).over_long ∙ sym s.over_long

pub shape_of-stopped : goal.shape_of-stopped
shape_of-stopped c =
    let s = c.requires.0.running.shaped in
    (topped_shaped _ _ _ _ _ _ _ _ _ c.loop-rest.invariant.topped s).stopped_long ∙ sym s.stopped_long

pub shape_of-marks : goal.shape_of-marks
shape_of-marks c = c.loop-rest.invariant.topped.mirrors.sized.long ∙ sym c.requires.0.mirrors.sized.long

pub shape_of-out : goal.shape_of-out
shape_of-out c = topped_length _ _ _ _ _ _ _ _ _ c.loop-rest.invariant.topped c.requires.2

pub returns : goal.returns
returns c = walk_all c.loop-rest.invariant c.loop-rest-test.false
