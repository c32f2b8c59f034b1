-- The task holds no global mutex to m.
use native.Mathlib.Omega.{arith}
use mathlib.Core.Path.{◌∙◌, ap₂}
use mathlib.Core.Bool.{◌&&◌}
use Rattle.board_walks.specs.WalkLaws.{lack_none, lack_next, lack_here, lack_all}
use Rattle.board_walks.proofs.held_global.Goals as goal

pub loop-m-init : goal.loop-m-init
loop-m-init c = lack_none

pub returns-then-both : goal.returns-then-both
returns-then-both c = lack_here c.loop-m.invariant c.loop-m.auto.m c.loop-m-test.true (c.both.ensures ∙ ap₂ ◌&&◌ c.is_global.ensures c.holds.ensures) c.if-both.true

pub loop-m-preserved : goal.loop-m-preserved
loop-m-preserved c = lack_next c.loop-m.invariant c.loop-m.auto.m c.loop-m-test.true (c.both.ensures ∙ ap₂ ◌&&◌ c.is_global.ensures c.holds.ensures) c.if-both.false

pub returns : goal.returns
returns c = lack_all c.loop-m.invariant (omega arith)
