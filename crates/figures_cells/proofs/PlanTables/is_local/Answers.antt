-- `is_local` meets its contract: no row before this one passes.
use Prim.Native.Nat.{◌-◌}
use Rattle.figures.specs.Tabled.{system_in}
use Rattle.laws.specs.RowLaws.{lacking_all, lacking_more, lacking_none, lacking_out}
use Rattle.plan.specs.Lookup.{local_to}
use Rattle.figures_cells.proofs.PlanTables.is_local.Goals as goal

pub loop-a-init : goal.loop-a-init
unfolding local_to system_in
loop-a-init c = lacking_none

pub returns-then-row_local : goal.returns-then-row_local
unfolding local_to system_in
returns-then-row_local c = lacking_out c.loop-a.invariant c.loop-a-test.true c.row_local.ensures c.if-row_local.true

pub loop-a-preserved : goal.loop-a-preserved
unfolding local_to system_in
loop-a-preserved c = lacking_more c.loop-a.invariant c.loop-a-test.true c.row_local.ensures c.if-row_local.false

pub returns : goal.returns
unfolding local_to system_in
returns c = lacking_all c.loop-a.invariant c.loop-a-test.false
