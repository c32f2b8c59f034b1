-- `blocking_ghts` meets its contract.
use Rattle.laws.specs.RowLaws.{summed_all, summed_more, summed_none}
use borrow.Author.Rules.{rules}
use Rattle.times_vcpus.proofs.blocking_ghts.Goals as goal

pub loop-b-init : goal.loop-b-init
loop-b-init c = summed_none

pub loop-b-preserved : goal.loop-b-preserved
loop-b-preserved c = summed_more c.loop-b.invariant c.loop-b-test.true c.blocking_ght-x.ensures

pub returns : goal.returns
returns c = summed_all 16 (search rules) c.loop-b.invariant c.loop-b-test.false
