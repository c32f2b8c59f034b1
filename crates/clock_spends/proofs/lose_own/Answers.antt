use Rattle.clock_spends.specs.Losing.{own_none, own_some}
use mathlib.Core.Path.{refl}
use Rattle.clock_spends.proofs.lose_own.Goals as goal

pub returns-then-v-eq0 : goal.returns-then-v-eq0
returns-then-v-eq0 c = own_none c.args.left.now c.args.v c.args.k c.if-v-eq0.true

pub returns : goal.returns
returns c = own_some c.args.left.now c.args.v c.args.k c.if-v-eq0.false refl c.sub.ensures
