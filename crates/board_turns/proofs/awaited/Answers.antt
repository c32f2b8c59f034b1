-- The marks of the places before i are counted.
use Prim.Native.Nat.{◌-◌, ◌+◌}
use mathlib.Core.Path.{◌≡◌, ap}
use native.Mathlib.Omega.{arith}
use lib.Dec.{eqb}
use lib.ListN.{get_or}
use Rattle.board_turns.specs.TurnLaws.{counted_none, counted_more, counted_all}
use Rattle.board_turns.proofs.awaited.Goals as goal

pub loop-i-init : goal.loop-i-init
loop-i-init c = counted_none

pub overflow_add-k : goal.overflow_add-k
overflow_add-k c = let h = c.loop-i.invariant in omega (arith, h.few, h.within, c.loop-i-test.true, c.one-k.ensures.1)

pub loop-i-preserved : goal.loop-i-preserved
loop-i-preserved c =
    let i = c.loop-i.i in
    let a = c.args in
    let e : i ≡ i + 1 - 1 = omega arith in
    counted_more c.loop-i.invariant (omega (arith, c.loop-i-test.true)) c.one-k.ensures.0 (ap (λ j. eqb (get_or a.waits.now j 0) a.w) e)

pub returns : goal.returns
returns c = counted_all c.loop-i.invariant c.loop-i-test.false
