use Rattle.clock_strides.specs.TurnsOn.{rest_last, rest_more}
use mathlib.Core.Path.{refl, sym, ◌∙◌}
use native.Mathlib.Omega.{arith}
use Rattle.clock_strides.proofs.turns_on.Goals as goal

pub loop-c-init : goal.loop-c-init
loop-c-init c = let q = c.requires in record { to_core = omega arith; going = q.0; counted = q.1; after = refl }

pub turn_on-requires : goal.turn_on-requires
turn_on-requires c = let i = c.loop-c.invariant in let l = c.loop-c-test.true in (i.going, i.counted, omega arith)

pub loop-c-preserved : goal.loop-c-preserved
loop-c-preserved c = rest_more c.loop-c.invariant c.loop-c-test.true c.turn_on.ensures

pub shape_of-left : goal.shape_of-left
shape_of-left c = c.loop-c.invariant.going.running.shaped.left_long ∙ sym c.requires.0.running.shaped.left_long

pub shape_of-over : goal.shape_of-over
shape_of-over c = c.loop-c.invariant.going.running.shaped.over_long ∙ sym c.requires.0.running.shaped.over_long

pub shape_of-stopped : goal.shape_of-stopped
shape_of-stopped c = c.loop-c.invariant.going.running.shaped.stopped_long ∙ sym c.requires.0.running.shaped.stopped_long

pub shape_of-holder : goal.shape_of-holder
shape_of-holder c = c.loop-c.invariant.going.running.shaped.holder_long ∙ sym c.requires.0.running.shaped.holder_long

pub shape_of-waits : goal.shape_of-waits
shape_of-waits c = c.loop-c.invariant.going.running.shaped.waits_long ∙ sym c.requires.0.running.shaped.waits_long

pub shape_of-marks : goal.shape_of-marks
shape_of-marks c = c.loop-c.invariant.going.mirrors.sized.long ∙ sym c.requires.0.mirrors.sized.long

pub shape_of-plain : goal.shape_of-plain
shape_of-plain c = c.loop-c.invariant.counted.long ∙ sym c.requires.1.long

pub returns : goal.returns
returns c = let i = c.loop-c.invariant in let l = c.loop-c-test.false in let m = i.to_core in rest_last i (omega arith)
