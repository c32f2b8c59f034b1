-- The task holds no local mutex above m.
use native.Mathlib.Omega.{arith}
use mathlib.Core.Path.{◌∙◌, ap₂}
use mathlib.Core.Bool.{◌&&◌}
use Rattle.laws.specs.RangeLaws.{down_none, down_more, down_out, down_all}
use Rattle.board_walks.proofs.held_local.Goals as goal

pub loop-m-init : goal.loop-m-init
loop-m-init c = down_none

pub returns-then-both : goal.returns-then-both
returns-then-both c = down_out c.loop-m.invariant c.loop-m-test.true (c.both.ensures ∙ ap₂ ◌&&◌ c.is_local.ensures c.holds.ensures) c.if-both.true

pub loop-m-preserved : goal.loop-m-preserved
loop-m-preserved c = down_more c.loop-m.invariant c.loop-m-test.true (c.both.ensures ∙ ap₂ ◌&&◌ c.is_local.ensures c.holds.ensures) c.if-both.false

pub returns : goal.returns
returns c = down_all c.loop-m.invariant (omega arith)
