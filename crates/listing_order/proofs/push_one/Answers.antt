-- `push_one` meets its contract: where the row is asked for, its place stands after the others.
use Rattle.listing_order.specs.Pushed.{is_task}
use Rattle.listing_order.specs.PushLaws.{pushed_in, pushed_out, pushed_room}
use Rattle.listing_order.proofs.push_one.Goals as goal

pub returns-then-not-row_task : goal.returns-then-not-row_task
returns-then-not-row_task c = let a = c.args in let h = c.requires in pushed_out (is_task a.v a.n) a.i h.1 c.row_task.ensures c.if-not-row_task.true

pub bounds-order-k : goal.bounds-order-k
bounds-order-k c = let a = c.args in let h = c.requires in pushed_room (is_task a.v a.n) _ c.row_task.ensures c.if-not-row_task.false h.1 h.2

pub returns : goal.returns
returns c =
    let a = c.args in
    let h = c.requires in
    pushed_in (is_task a.v a.n) a.i h.1 h.0 c.row_task.ensures c.if-not-row_task.false
    (pushed_room (is_task a.v a.n) _ c.row_task.ensures c.if-not-row_task.false h.1 h.2)
