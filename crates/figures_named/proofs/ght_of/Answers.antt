-- `ght_of` meets its contract.
use Rattle.figures.specs.Figures.{ght}
use Rattle.figures.specs.Tabled.{system_in}
use Rattle.laws.specs.RowLaws.{summed_all, summed_more, summed_none}
use borrow.Author.Rules.{rules}
use Rattle.figures_named.proofs.ght_of.Goals as goal

pub loop-h-init : goal.loop-h-init
unfolding ght system_in
loop-h-init c = summed_none

pub loop-h-preserved : goal.loop-h-preserved
unfolding ght system_in
loop-h-preserved c = summed_more c.loop-h.invariant c.loop-h-test.true c.ght_at-x.ensures

pub returns : goal.returns
unfolding ght system_in
returns c = summed_all 64 (search rules) c.loop-h.invariant c.loop-h-test.false
