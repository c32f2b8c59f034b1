-- `clock_passes::passes` meets its contract: of those that hold a mutex, `rest` are left.
use native.Mathlib.Omega.{arith}
use Rattle.clock_passes.specs.Passing.{passing_first, passing_all, next_in_law, passing_out, passing_less, passing_more}
use mathlib.Core.Bool.{not}
use mathlib.Core.Path.{ap}
use Rattle.clock_passes.proofs.passes.Goals as goal

pub loop-rest-init : goal.loop-rest-init
loop-rest-init c =
    passing_first c.at-rest.ensures (c.requires.0.few_holders c.args.v (record { from = c.requires.1; to = c.requires.2 }))

pub lowest_in-x-requires : goal.lowest_in-x-requires
lowest_in-x-requires c = omega (arith, c.loop-rest.invariant.few)

pub held-requires : goal.held-requires
held-requires c = (c.requires.2, (next_in_law c.loop-rest.invariant c.loop-rest-test.true c.lowest_in-x.ensures.0).to)

pub returns-then-not-clears : goal.returns-then-not-clears
returns-then-not-clears c = passing_out c.loop-rest.invariant c.loop-rest-test.true c.lowest_in-x.ensures.0 c.held.ensures c.clears.ensures (ap not c.if-not-clears.true)

pub without-rest-requires : goal.without-rest-requires
without-rest-requires c = ((next_in_law c.loop-rest.invariant c.loop-rest-test.true c.lowest_in-x.ensures.0).from, c.lowest_in-x.ensures.1)

pub loop-rest-smaller : goal.loop-rest-smaller
loop-rest-smaller c = passing_less c.loop-rest.invariant c.loop-rest-test.true c.lowest_in-x.ensures.0 c.without-rest.ensures

pub loop-rest-preserved : goal.loop-rest-preserved
loop-rest-preserved c = passing_more c.loop-rest.invariant c.loop-rest-test.true c.lowest_in-x.ensures.0 c.without-rest.ensures c.held.ensures c.clears.ensures (ap not c.if-not-clears.false)

pub returns : goal.returns
returns c = passing_all c.loop-rest.invariant c.loop-rest-test.false
