-- The budgets to v are filled.
use mathlib.Core.Path.{refl}
use Rattle.board_walks.specs.WalkLaws.{filled_none, filled_more, filled_all}
use Rattle.board_good.proofs.budgets.Goals as goal

pub loop-v-init : goal.loop-v-init
loop-v-init c = filled_none refl

pub loop-v-preserved : goal.loop-v-preserved
loop-v-preserved c = filled_more c.loop-v.invariant c.loop-v-test.true c.budget.ensures

pub returns : goal.returns
returns c = filled_all c.loop-v.invariant c.loop-v-test.false
