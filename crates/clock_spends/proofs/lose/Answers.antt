use Rattle.clock_spends.specs.Losing.{losing_first, losing_all, losing_more}
use Rattle.clock_reaches.specs.Bounds.{next_in_law, set_less}
use mathlib.Core.Path.{refl}
use native.Mathlib.Omega.{arith}
use Rattle.clock_spends.proofs.lose.Goals as goal

pub loop-rest-init : goal.loop-rest-init
loop-rest-init c = losing_first c.args.left.now c.args.set c.args.k c.requires.1

pub lowest_in-v-requires : goal.lowest_in-v-requires
lowest_in-v-requires c = c.loop-rest.invariant.is_set

pub overflow_sub-i : goal.overflow_sub-i
overflow_sub-i c = let i = next_in_law c.loop-rest.invariant.is_set c.loop-rest-test.true c.lowest_in-v.ensures.0 in let f = i.from in omega arith

pub bounds-left-i : goal.bounds-left-i
bounds-left-i c =
    let i = next_in_law c.loop-rest.invariant.is_set c.loop-rest-test.true c.lowest_in-v.ensures.0 in
    let f = i.from in
    let t = i.to in
    let l = c.loop-rest.invariant.long in
    let z = c.requires.0 in
    omega arith

pub bounds-left-i-in-loop-rest : goal.bounds-left-i-in-loop-rest
bounds-left-i-in-loop-rest c =
    let i = next_in_law c.loop-rest.invariant.is_set c.loop-rest-test.true c.lowest_in-v.ensures.0 in
    let f = i.from in
    let t = i.to in
    let l = c.loop-rest.invariant.long in
    let z = c.requires.0 in
    omega arith

pub without-rest-requires : goal.without-rest-requires
without-rest-requires c = let i = next_in_law c.loop-rest.invariant.is_set c.loop-rest-test.true c.lowest_in-v.ensures.0 in (i.from, i.to)

pub loop-rest-smaller : goal.loop-rest-smaller
loop-rest-smaller c = set_less c.loop-rest.invariant.is_set c.loop-rest-test.true c.lowest_in-v.ensures.0 c.without-rest.ensures

pub loop-rest-preserved : goal.loop-rest-preserved
loop-rest-preserved c =
    losing_more c.loop-rest.invariant c.loop-rest-test.true c.lowest_in-v.ensures.0 c.requires.0 c.without-rest.ensures refl c.sub.ensures

pub shape_of-left : goal.shape_of-left
shape_of-left c = c.loop-rest.invariant.long

pub returns : goal.returns
returns c = losing_all c.loop-rest.invariant c.loop-rest-test.false
