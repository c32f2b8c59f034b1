-- `wait_costs` meets its contract.
use Prim.Native.Nat.{◌-◌}
use Rattle.laws.specs.RowLaws.{summed_all, summed_more, summed_none}
use borrow.Author.Rules.{rules}
use Rattle.times_waits.proofs.wait_costs.Goals as goal

pub loop-i-init : goal.loop-i-init
loop-i-init c = summed_none

pub loop-i-preserved : goal.loop-i-preserved
loop-i-preserved c = summed_more c.loop-i.invariant c.loop-i-test.true c.wait_cost-x.ensures

pub returns : goal.returns
returns c = summed_all 64 (search rules) c.loop-i.invariant c.loop-i-test.false
