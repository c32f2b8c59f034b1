-- No mutex to m bars the task.
use native.Mathlib.Omega.{arith}
use Rattle.board_walks.specs.WalkLaws.{pass_none, pass_next, pass_here, pass_all}
use mathlib.Core.Bool.{not}
use mathlib.Core.Path.{ap}
use Rattle.board_walks.proofs.passes.Goals as goal

pub loop-m-init : goal.loop-m-init
loop-m-init c = pass_none

pub returns-then-not-clears : goal.returns-then-not-clears
returns-then-not-clears c = pass_here c.loop-m.invariant c.loop-m.auto.m c.loop-m-test.true c.clears.ensures (ap not c.if-not-clears.true)

pub loop-m-preserved : goal.loop-m-preserved
loop-m-preserved c = pass_next c.loop-m.invariant c.loop-m.auto.m c.loop-m-test.true c.clears.ensures (ap not c.if-not-clears.false)

pub returns : goal.returns
returns c = pass_all c.loop-m.invariant (omega arith)
