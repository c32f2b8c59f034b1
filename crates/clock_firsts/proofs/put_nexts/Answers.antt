-- `put_nexts` meets its contract: the nexts before this one are the first.
use borrow.Author.Rules.{rules}
use native.Mathlib.Omega.{arith}
use Rattle.clock_nexts.specs.WriteLaws.{wrote_none, wrote_more, wrote_to}
use Rattle.clock_firsts.proofs.put_nexts.Goals as goal

pub loop-i-init : goal.loop-i-init
loop-i-init c = (wrote_none, search rules)

pub loop-i-preserved : goal.loop-i-preserved
loop-i-preserved c =
    let h = c.loop-i.invariant in
    let l = c.loop-i-test.true in
    let e = c.requires.1 in
    (wrote_more h.0 (omega arith) (omega arith) c.first_next.ensures, search rules)

pub shape_of-nexts : goal.shape_of-nexts
shape_of-nexts c = c.loop-i.invariant.0.length_same

pub returns : goal.returns
returns c = let h = c.loop-i.invariant in wrote_to h.0 h.1 c.loop-i-test.false
