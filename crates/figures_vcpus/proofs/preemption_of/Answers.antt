-- `preemption_of` meets its contract.
use Prim.Native.Nat.{◌-◌}
use Rattle.figures.specs.Figures.{preemption}
use Rattle.figures.specs.Tabled.{system_in}
use Rattle.laws.specs.RowLaws.{summed_all, summed_more, summed_none}
use borrow.Author.Rules.{rules}
use Rattle.figures_vcpus.proofs.preemption_of.Goals as goal

pub loop-b-init : goal.loop-b-init
unfolding preemption system_in
loop-b-init c = summed_none

pub loop-b-preserved : goal.loop-b-preserved
unfolding preemption system_in
loop-b-preserved c = summed_more c.loop-b.invariant c.loop-b-test.true c.preempts_by-x.ensures

pub returns : goal.returns
unfolding preemption system_in
returns c = summed_all 16 (search rules) c.loop-b.invariant c.loop-b-test.false
