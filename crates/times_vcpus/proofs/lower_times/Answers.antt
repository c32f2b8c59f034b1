-- `lower_times` meets its contract.
use Rattle.figures.specs.Tabled.{system_in}
use Rattle.laws.specs.RowLaws.{summed_all, summed_more, summed_none}
use Rattle.figures_slices.specs.Costs.{lower_times}
use borrow.Author.Rules.{rules}
use Rattle.times_vcpus.proofs.lower_times.Goals as goal

pub loop-b-init : goal.loop-b-init
unfolding lower_times system_in
loop-b-init c = summed_none

pub loop-b-preserved : goal.loop-b-preserved
unfolding lower_times system_in
loop-b-preserved c = summed_more c.loop-b.invariant c.loop-b-test.true c.lower_one-x.ensures

pub returns : goal.returns
unfolding lower_times system_in
returns c = summed_all 16 (search rules) c.loop-b.invariant c.loop-b-test.false
