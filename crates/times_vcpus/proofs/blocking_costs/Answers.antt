-- `blocking_costs` meets its contract.
use Rattle.laws.specs.RowLaws.{summed_all, summed_more, summed_none}
use borrow.Author.Rules.{rules}
use Rattle.times_vcpus.proofs.blocking_costs.Goals as goal

pub loop-k-init : goal.loop-k-init
loop-k-init c = summed_none

pub loop-k-preserved : goal.loop-k-preserved
loop-k-preserved c = summed_more c.loop-k.invariant c.loop-k-test.true c.blocking_cost-x.ensures

pub returns : goal.returns
returns c = summed_all 64 (search rules) c.loop-k.invariant c.loop-k-test.false
