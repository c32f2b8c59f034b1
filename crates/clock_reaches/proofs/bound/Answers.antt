use Rattle.clock_reaches.specs.Bounds.{bounded_first, bounded_all, bounded_more, next_in_law, set_less}
use native.Mathlib.Omega.{arith}
use Rattle.clock_reaches.proofs.bound.Goals as goal

pub loop-rest-init : goal.loop-rest-init
loop-rest-init c = bounded_first c.args.left.now c.args.set c.args.k c.requires

pub lowest_in-v-requires : goal.lowest_in-v-requires
lowest_in-v-requires c = c.loop-rest.invariant.is_set

pub without-rest-requires : goal.without-rest-requires
without-rest-requires c = let i = next_in_law c.loop-rest.invariant.is_set c.loop-rest-test.true c.lowest_in-v.ensures.0 in (i.from, i.to)

pub loop-rest-smaller : goal.loop-rest-smaller
loop-rest-smaller c = set_less c.loop-rest.invariant.is_set c.loop-rest-test.true c.lowest_in-v.ensures.0 c.without-rest.ensures

pub loop-rest-preserved : goal.loop-rest-preserved
loop-rest-preserved c =
    let a = c.sooner-least.ensures in
    let b = c.sub.ensures in
    let f = c.figure.ensures in
    bounded_more c.loop-rest.invariant c.without-rest.ensures (omega (arith, a.0, b, f)) a.1

pub returns : goal.returns
returns c = bounded_all c.loop-rest.invariant c.loop-rest-test.false
