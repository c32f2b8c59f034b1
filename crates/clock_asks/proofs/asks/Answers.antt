-- `clock_asks::asks` meets its contract.
use Prim.Native.Nat.{◌+◌, ◌-◌}
use mathlib.Core.Path.{◌≡◌}
use native.Mathlib.Omega.{arith}
use borrow.Author.Tests.{not-true, not-false}
use Rattle.clock_asks.specs.Rest.{rest_first, rest_spent, rest_none, rest_may, kept_waits, kept_granted}
use Rattle.clock_asks.proofs.asks.Goals as goal

pub loop-init : goal.loop-init
loop-init c = (rest_first c.requires.going.0 c.requires.room_at, c.requires.known_pick)

pub pick-p-requires : goal.pick-p-requires
pick-p-requires c =
    let i = c.loop.invariant in record { going = (i.0.going, c.requires.going.1); known_pick = i.1 }

pub shape_of-holder-then-m-eq0 : goal.shape_of-holder-then-m-eq0
shape_of-holder-then-m-eq0 c = c.loop.invariant.0.holder_same

pub shape_of-waits-then-m-eq0 : goal.shape_of-waits-then-m-eq0
shape_of-waits-then-m-eq0 c = c.loop.invariant.0.waits_same

pub shape_of-marks-then-m-eq0 : goal.shape_of-marks-then-m-eq0
shape_of-marks-then-m-eq0 c = c.loop.invariant.0.marks_same

pub shape_of-out-then-m-eq0 : goal.shape_of-out-then-m-eq0
shape_of-out-then-m-eq0 c = c.loop.invariant.0.out_same

pub returns-then-m-eq0 : goal.returns-then-m-eq0
returns-then-m-eq0 c =
    let l = c.loop in
    rest_none l.invariant.0 (omega arith) c.pick-p.ensures c.if-m-eq0.true

pub ask-a-requires : goal.ask-a-requires
ask-a-requires c = let h = rest_may c.loop.invariant.0 (omega arith) c.pick-p.ensures c.if-m-eq0.false in record { may_ask = h.0; room_at = h.1 }

pub returns-then-not-a : goal.returns-then-not-a
returns-then-not-a c =
    let a = c.ask-a in
    let y = a.new in
    kept_granted c.loop.invariant.0 (omega arith) c.pick-p.ensures c.if-m-eq0.false {hs'' = y.holder} {ws'' = y.waits} {k'' = y.marks} {o'' = y.out} a.ensures (not-true _ c.if-not-a.true)

pub loop-preserved : goal.loop-preserved
loop-preserved c =
    let a = c.ask-a in
    let y = a.new in
    let e : 129 - (c.loop.counter + 1) ≡ 129 - c.loop.counter - 1 = omega arith in
    (rw e (kept_waits c.loop.invariant.0 (omega arith) c.pick-p.ensures c.if-m-eq0.false {hs'' = y.holder} {ws'' = y.waits} {k'' = y.marks} {o'' = y.out} a.ensures (not-false _ c.if-not-a.false)), λ z. absurd (omega arith))

pub shape_of-holder : goal.shape_of-holder
shape_of-holder c = c.loop.invariant.0.holder_same

pub shape_of-waits : goal.shape_of-waits
shape_of-waits c = c.loop.invariant.0.waits_same

pub shape_of-marks : goal.shape_of-marks
shape_of-marks c = c.loop.invariant.0.marks_same

pub shape_of-out : goal.shape_of-out
shape_of-out c = c.loop.invariant.0.out_same

pub returns : goal.returns
returns c = rest_spent c.loop.invariant.0 (omega arith)
