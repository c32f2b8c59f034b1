-- `renew_set` meets its contract: those no longer in the rest are renewed, and r is the least of them.
use mathlib.Core.Path.{refl}
use native.Mathlib.Omega.{arith}
use Rattle.clock_renews.specs.SetLaws.{renewing_first, renewing_more, renewing_all, next_in_law, set_less}
use Rattle.clock_renews.proofs.renew_set.Goals as goal

pub loop-rest-init : goal.loop-rest-init
loop-rest-init c = let p = c.requires in renewing_first p.2 p.3 p.4

pub lowest_in-v-requires : goal.lowest_in-v-requires
lowest_in-v-requires c = c.loop-rest.invariant.is_set

pub overflow_sub-i : goal.overflow_sub-i
overflow_sub-i c = let i = next_in_law c.loop-rest.invariant.is_set c.loop-rest-test.true c.lowest_in-v.ensures.0 in let f = i.from in omega arith

pub overflow_add-i : goal.overflow_add-i
overflow_add-i c = let l = c.lowest_in-v.ensures.1 in omega arith

pub bounds-times-i : goal.bounds-times-i
bounds-times-i c =
    let l = c.lowest_in-v.ensures.1 in
    let z = c.requires.0.long in
    omega arith

pub bounds-nexts-i : goal.bounds-nexts-i
bounds-nexts-i c =
    let l = c.lowest_in-v.ensures.1 in
    let m = c.loop-rest.invariant.long in
    let z = c.requires.1 in
    omega arith

pub renewed-y-requires : goal.renewed-y-requires
renewed-y-requires c =
    let p = c.requires in
    let l = c.lowest_in-v.ensures.1 in
    (p.0.to _ (omega arith), p.3)

pub bounds-nexts-i-in-loop-rest : goal.bounds-nexts-i-in-loop-rest
bounds-nexts-i-in-loop-rest c =
    let l = c.lowest_in-v.ensures.1 in
    let m = c.loop-rest.invariant.long in
    let z = c.requires.1 in
    omega arith

pub without-rest-requires : goal.without-rest-requires
without-rest-requires c =
    let i = next_in_law c.loop-rest.invariant.is_set c.loop-rest-test.true c.lowest_in-v.ensures.0 in
    (i.from, i.to)

pub loop-rest-smaller : goal.loop-rest-smaller
loop-rest-smaller c =
    set_less c.loop-rest.invariant.is_set c.loop-rest-test.true c.lowest_in-v.ensures.0 c.without-rest.ensures

pub loop-rest-preserved : goal.loop-rest-preserved
loop-rest-preserved c =
    renewing_more c.loop-rest.invariant c.loop-rest-test.true c.lowest_in-v.ensures.0 c.requires.1 c.without-rest.ensures refl c.renewed-y.ensures c.sooner-r.ensures

pub shape_of-nexts : goal.shape_of-nexts
shape_of-nexts c = c.loop-rest.invariant.long

pub returns : goal.returns
returns c = renewing_all c.loop-rest.invariant c.loop-rest-test.false
