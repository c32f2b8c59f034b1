-- No mutex to m is a global one that a task of v holds.
use native.Mathlib.Omega.{arith}
use Rattle.board_walks.specs.WalkLaws.{lack_none, lack_next, lack_here, lack_all}
use Rattle.board_walks.proofs.holds_global.Goals as goal

pub loop-m-init : goal.loop-m-init
loop-m-init c = lack_none

pub returns-then-global_by : goal.returns-then-global_by
returns-then-global_by c = lack_here c.loop-m.invariant c.loop-m.auto.m c.loop-m-test.true c.global_by.ensures c.if-global_by.true

pub loop-m-preserved : goal.loop-m-preserved
loop-m-preserved c = lack_next c.loop-m.invariant c.loop-m.auto.m c.loop-m-test.true c.global_by.ensures c.if-global_by.false

pub returns : goal.returns
returns c = lack_all c.loop-m.invariant (omega arith)
