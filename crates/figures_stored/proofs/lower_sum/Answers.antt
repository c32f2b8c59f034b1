-- `lower_sum` meets its contract.
use Prim.Native.Nat.{◌-◌}
use Rattle.figures.specs.Parts.{lower_sum}
use Rattle.figures.specs.Tabled.{system_in}
use Rattle.laws.specs.RowLaws.{summed_all, summed_more, summed_none}
use borrow.Author.Rules.{rules}
use Rattle.figures_stored.proofs.lower_sum.Goals as goal

pub loop-h-init : goal.loop-h-init
unfolding lower_sum system_in
loop-h-init c = summed_none

pub loop-h-preserved : goal.loop-h-preserved
unfolding lower_sum system_in
loop-h-preserved c = summed_more c.loop-h.invariant c.loop-h-test.true c.blocks_global-x.ensures

pub returns : goal.returns
unfolding lower_sum system_in
returns c = summed_all 64 (search rules) c.loop-h.invariant c.loop-h-test.false
