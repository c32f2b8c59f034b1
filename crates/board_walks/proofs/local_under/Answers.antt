-- No task above n waits for a local mutex under the cap.
use native.Mathlib.Omega.{arith}
use mathlib.Core.Path.{◌∙◌, ap}
use mathlib.Core.Bool.{◌&&◌}
use borrow.Author.Rules.{rules}
use lib.Dec.{leb}
use Rattle.laws.specs.RangeLaws.{down_none, down_more, down_out, down_all}
use Rattle.board_walks.proofs.local_under.Goals as goal

pub loop-n-init : goal.loop-n-init
loop-n-init c = down_none

pub returns-then-both : goal.returns-then-both
returns-then-both c = (down_out c.loop-n.invariant c.loop-n-test.true (c.both.ensures ∙ ap (λ t. t && leb c.loop-n.n c.args.cap) c.local_waiter.ensures) c.if-both.true, search rules)

pub loop-n-preserved : goal.loop-n-preserved
loop-n-preserved c = down_more c.loop-n.invariant c.loop-n-test.true (c.both.ensures ∙ ap (λ t. t && leb c.loop-n.n c.args.cap) c.local_waiter.ensures) c.if-both.false

pub returns : goal.returns
returns c = (down_all c.loop-n.invariant (omega arith), search rules)
