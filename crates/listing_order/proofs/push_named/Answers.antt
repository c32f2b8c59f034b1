-- `push_named` meets its contract: the places of the tasks among the rows before this one are written.
use Rattle.figures.specs.Tabled.{system_in}
use Rattle.laws.specs.Rows.{rows}
use Rattle.laws.specs.Sums.{only}
use Rattle.listing_order.specs.PushLaws.{growing_all, growing_more, growing_none, growing_room, only_next}
use Rattle.listing_order.specs.Pushed.{is_task, named}
use Rattle.plan_tables.specs.Layout.{task_row}
use mathlib.Core.Path.{◌∙◌, refl}
use Rattle.listing_order.proofs.push_named.Goals as goal

pub loop-i-init : goal.loop-i-init
unfolding only rows
loop-i-init c = let a = c.args in (refl, growing_none _ _ (only_next (is_task a.v a.n) (task_row a.t.now.tasks.now)) c.requires.0 refl)

pub push_one-e-requires : goal.push_one-e-requires
unfolding named system_in
push_one-e-requires c =
    let a = c.args in
    let h = c.requires in
    let i = c.loop-i.invariant.1 in
    let l = c.loop-i-test.true in
    (l, i.added.placed, growing_room _ _ (only_next (is_task a.v a.n) (task_row a.t.now.tasks.now)) i l h.1)

pub loop-i-preserved : goal.loop-i-preserved
loop-i-preserved c =
    let a = c.args in
    let i = c.loop-i.invariant in
    (c.push_one-e.auto.order ∙ i.0, growing_more _ _ (only_next (is_task a.v a.n) (task_row a.t.now.tasks.now)) i.1 c.loop-i-test.true c.push_one-e.ensures)

pub returns : goal.returns
unfolding named system_in
returns c = let a = c.args in growing_all _ _ (only_next (is_task a.v a.n) (task_row a.t.now.tasks.now)) c.loop-i.invariant.1 c.loop-i-test.false
