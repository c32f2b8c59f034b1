-- `wait_start` meets its contract.
use Prim.Native.Nat.{◌-◌}
use Rattle.figures.specs.Figures.{wait_start}
use Rattle.figures.specs.Tabled.{system_in}
use Rattle.laws.specs.RowLaws.{greatest_all, greatest_more, greatest_none}
use Rattle.times_waits.proofs.wait_start.Goals as goal

pub loop-i-init : goal.loop-i-init
unfolding wait_start system_in
loop-i-init c = greatest_none

pub loop-i-preserved : goal.loop-i-preserved
unfolding wait_start system_in
loop-i-preserved c = greatest_more c.loop-i.invariant c.loop-i-test.true c.most_lower-x.ensures c.larger-s.ensures

pub returns : goal.returns
unfolding wait_start system_in
returns c = greatest_all c.loop-i.invariant c.loop-i-test.false
