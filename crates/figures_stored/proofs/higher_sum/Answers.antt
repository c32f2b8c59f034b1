-- `higher_sum` meets its contract.
use Prim.Native.Nat.{◌-◌}
use Rattle.figures.specs.Parts.{higher_sum}
use Rattle.figures.specs.Tabled.{system_in}
use Rattle.laws.specs.RowLaws.{summed_all, summed_more, summed_none}
use borrow.Author.Rules.{rules}
use Rattle.figures_stored.proofs.higher_sum.Goals as goal

pub loop-h-init : goal.loop-h-init
unfolding higher_sum system_in
loop-h-init c = summed_none

pub loop-h-preserved : goal.loop-h-preserved
unfolding higher_sum system_in
loop-h-preserved c = summed_more c.loop-h.invariant c.loop-h-test.true c.load_at-x.ensures

pub returns : goal.returns
unfolding higher_sum system_in
returns c = summed_all 64 (search rules) c.loop-h.invariant c.loop-h-test.false
