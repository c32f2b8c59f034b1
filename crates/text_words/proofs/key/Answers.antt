-- `text_lines::key` meets its contract.
use mathlib.Core.Path.{sym}
use native.Mathlib.Omega.{arith}
use Rattle.text_words.specs.KeyLaws.{spelt_none, spelt_more, spelt_room, spelt_small, spelt_end, key_long}
use Rattle.text_words.proofs.key.Goals as goal

pub returns-then-s-gt7 : goal.returns-then-s-gt7
returns-then-s-gt7 c = sym (key_long _ c.if-s-gt7.true)

pub loop-x-init : goal.loop-x-init
loop-x-init c = spelt_none

pub overflow_mul-v : goal.overflow_mul-v
overflow_mul-v c = omega (arith, spelt_room 7 c.loop-x.invariant (omega arith) (omega arith))

pub overflow_add-v : goal.overflow_add-v
overflow_add-v c =
    let l = c.loop-x in
    omega (arith, spelt_room 7 l.invariant (omega arith) (omega arith), c.type_inv.s l.x-index)

pub loop-x-preserved : goal.loop-x-preserved
loop-x-preserved c =
    let l = c.loop-x in
    spelt_more l.invariant (omega arith) (omega (arith, c.type_inv.s l.x-index))

pub overflow_mul-result : goal.overflow_mul-result
overflow_mul-result c = omega (arith, spelt_small 7 c.loop-x.invariant (omega arith))

pub overflow_add-result : goal.overflow_add-result
overflow_add-result c = omega (arith, spelt_small 7 c.loop-x.invariant (omega arith))

pub returns : goal.returns
returns c = spelt_end c.loop-x.invariant (omega arith) (omega arith)
