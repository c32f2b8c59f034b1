-- `text_numbers::digits` meets its contract.
use native.Mathlib.Omega.{arith}
use Rattle.laws.specs.Steps.{scanned_none, scanned_more, scanned_stop, scanned_end, scanned_room}
use Rattle.text_numbers.proofs.digits.Goals as goal

pub loop-x-init : goal.loop-x-init
loop-x-init c = scanned_none

pub overflow_mul-v : goal.overflow_mul-v
overflow_mul-v c = let l = c.loop-x in omega (arith, scanned_room 7 l.invariant (omega arith) (omega arith))

pub overflow_add-v : goal.overflow_add-v
overflow_add-v c = let l = c.loop-x in omega (arith, scanned_room 7 l.invariant (omega arith) (omega arith))

pub returns-else-d-lt10 : goal.returns-else-d-lt10
returns-else-d-lt10 c =
    let l = c.loop-x in
    scanned_stop l.invariant (omega arith) c.digit_of-d.ensures c.if-d-lt10.false

pub loop-x-preserved : goal.loop-x-preserved
loop-x-preserved c =
    let l = c.loop-x in
    scanned_more l.invariant (omega arith) c.digit_of-d.ensures c.if-d-lt10.true

pub returns : goal.returns
returns c = scanned_end c.loop-x.invariant c.loop-x-test.false
