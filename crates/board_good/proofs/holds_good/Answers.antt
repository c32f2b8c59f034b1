-- Each mutex to m is held as the conditions ask.
use native.Mathlib.Omega.{arith}
use Rattle.board_walks.specs.WalkLaws.{pass_none, pass_next, pass_here, pass_all}
use mathlib.Core.Bool.{not}
use mathlib.Core.Path.{ap}
use Rattle.board_good.proofs.holds_good.Goals as goal

pub loop-m-init : goal.loop-m-init
loop-m-init c = pass_none

pub returns-then-not-hold_good : goal.returns-then-not-hold_good
returns-then-not-hold_good c = pass_here c.loop-m.invariant c.loop-m.auto.m c.loop-m-test.true c.hold_good.ensures (ap not c.if-not-hold_good.true)

pub loop-m-preserved : goal.loop-m-preserved
loop-m-preserved c = pass_next c.loop-m.invariant c.loop-m.auto.m c.loop-m-test.true c.hold_good.ensures (ap not c.if-not-hold_good.false)

pub returns : goal.returns
returns c = pass_all c.loop-m.invariant (omega arith)
