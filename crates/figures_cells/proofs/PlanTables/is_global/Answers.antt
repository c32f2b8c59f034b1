-- `is_global` meets its contract: no row before this one passes.
use Prim.Native.Nat.{◌-◌}
use Rattle.figures.specs.Tabled.{system_in}
use Rattle.laws.specs.RowLaws.{lacking_all, lacking_more, lacking_none, lacking_out}
use Rattle.plan.specs.Lookup.{global}
use Rattle.figures_cells.proofs.PlanTables.is_global.Goals as goal

pub loop-a-init : goal.loop-a-init
unfolding global system_in
loop-a-init c = lacking_none

pub returns-then-row_global : goal.returns-then-row_global
unfolding global system_in
returns-then-row_global c = lacking_out c.loop-a.invariant c.loop-a-test.true c.row_global.ensures c.if-row_global.true

pub loop-a-preserved : goal.loop-a-preserved
unfolding global system_in
loop-a-preserved c = lacking_more c.loop-a.invariant c.loop-a-test.true c.row_global.ensures c.if-row_global.false

pub returns : goal.returns
unfolding global system_in
returns c = lacking_all c.loop-a.invariant c.loop-a-test.false
