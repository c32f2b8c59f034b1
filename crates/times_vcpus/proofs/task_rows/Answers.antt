-- `task_rows` meets its contract: the rows of the tasks before this one are written.
use mathlib.Core.Path.{refl, ◌∙◌}
use native.Mathlib.Omega.{arith}
use Rattle.laws.specs.Rows.{rows}
use Rattle.search.specs.TableLaws.{picked_all, picked_none}
use Rattle.plan_tables.specs.Layout.{task_row}
use Rattle.figures_slices.specs.CostLaws.{cost_added, cost_room}
use Rattle.times_vcpus.proofs.task_rows.Goals as goal

pub loop-k-init : goal.loop-k-init
loop-k-init c = (refl, picked_none (unfold rows in refl) (omega arith))

pub add_cost-n-requires : goal.add_cost-n-requires
add_cost-n-requires c = let i = c.loop-k.invariant in let h = c.requires in cost_room _ _ _ i.1 i.0 h.2 c.args.t.now.fit.tasks_few c.loop-k-test.true

pub loop-k-preserved : goal.loop-k-preserved
unfolding task_row
loop-k-preserved c =
    let i = c.loop-k.invariant in let h = c.requires in let l = c.loop-k-test.true in
    (c.rows-1.given ∙ i.0, cost_added _ _ i.1 l c.add_cost-n.ensures c.task_cell.ensures.is c.blocking_cost-cost.ensures.is (cost_room _ _ _ i.1 i.0 h.2 c.args.t.now.fit.tasks_few l))

pub returns : goal.returns
returns c = let i = c.loop-k.invariant in (omega (arith, i.1.built.few, i.1.built.within, c.args.t.now.fit.tasks_few), picked_all i.1 c.loop-k-test.false)
