-- The columns to n are filled.
use mathlib.Core.Path.{refl}
use Rattle.board_walks.specs.WalkLaws.{filled_none, filled_more, filled_all}
use Rattle.board_walks.proofs.row.Goals as goal

pub loop-n-init : goal.loop-n-init
loop-n-init c = filled_none refl

pub loop-n-preserved : goal.loop-n-preserved
loop-n-preserved c = filled_more c.loop-n.invariant c.loop-n-test.true c.kept_wait.ensures

pub returns : goal.returns
returns c = filled_all c.loop-n.invariant c.loop-n-test.false
