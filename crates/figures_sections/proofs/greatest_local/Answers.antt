-- `greatest_local` meets its contract.
use Prim.Native.Nat.{◌-◌}
use Rattle.figures.specs.Parts.{greatest_local}
use Rattle.figures.specs.Tabled.{system_in}
use Rattle.laws.specs.RowLaws.{greatest_all, greatest_more, greatest_none}
use Rattle.figures_sections.proofs.greatest_local.Goals as goal

pub loop-h-init : goal.loop-h-init
unfolding greatest_local system_in
loop-h-init c = greatest_none

pub loop-h-preserved : goal.loop-h-preserved
unfolding greatest_local system_in
loop-h-preserved c = greatest_more c.loop-h.invariant c.loop-h-test.true c.blocks_local-x.ensures c.larger-s.ensures

pub returns : goal.returns
unfolding greatest_local system_in
returns c = greatest_all c.loop-h.invariant c.loop-h-test.false
