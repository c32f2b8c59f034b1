-- `turns` meets its contract. The loop's invariant: the turns of the cores below c are made.
use mathlib.Core.Path.{sym, ◌∙◌}
use native.Mathlib.Omega.{arith}
use Rattle.clock_cores.specs.AllTurns.{rest_first, rest_last, rest_more, turn_may}
use Rattle.clock_cores.proofs.turns.Goals as goal

pub loop-c-init : goal.loop-c-init
loop-c-init c = let q = c.requires in rest_first q.going q.room_at

pub turn-r-requires : goal.turn-r-requires
turn-r-requires c =
    let m = turn_may c.loop-c.invariant c.loop-c-test.true in
    record { going = m.0; room_at = m.1.0; known_pick = m.1.1 }

pub loop-c-preserved : goal.loop-c-preserved
loop-c-preserved c =
    let i = c.loop-c.invariant in
    let u = c.turn-r in
    let y = u.new in
    rest_more i c.loop-c-test.true {ls₁ = y.left} {os₁ = y.over} {ss₁ = y.stopped} {hs₁ = y.holder} {ws₁ = y.waits} {k₁ = y.marks} {o₁ = y.out} u.ensures.turned

pub shape_of-left : goal.shape_of-left
shape_of-left c = c.loop-c.invariant.going.running.shaped.left_long ∙ sym c.requires.going.running.shaped.left_long

pub shape_of-over : goal.shape_of-over
shape_of-over c = c.loop-c.invariant.going.running.shaped.over_long ∙ sym c.requires.going.running.shaped.over_long

pub shape_of-stopped : goal.shape_of-stopped
shape_of-stopped c = c.loop-c.invariant.going.running.shaped.stopped_long ∙ sym c.requires.going.running.shaped.stopped_long

pub shape_of-holder : goal.shape_of-holder
shape_of-holder c = c.loop-c.invariant.going.running.shaped.holder_long ∙ sym c.requires.going.running.shaped.holder_long

pub shape_of-waits : goal.shape_of-waits
shape_of-waits c = c.loop-c.invariant.going.running.shaped.waits_long ∙ sym c.requires.going.running.shaped.waits_long

pub shape_of-marks : goal.shape_of-marks
shape_of-marks c = c.loop-c.invariant.going.mirrors.sized.long ∙ sym c.requires.going.mirrors.sized.long

pub shape_of-out : goal.shape_of-out
shape_of-out c = c.loop-c.invariant.out_same

pub returns : goal.returns
returns c =
    let i = c.loop-c.invariant in
    let n = c.loop-c-test.false in
    let l = i.to_core in
    rest_last i (omega arith)
