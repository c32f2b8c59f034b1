-- `size_tasks` meets its contract.
use Rattle.std.proofs.Common.{◌≡◌, length, get_or, take, length-take-le, get_or-take}
use Rattle.laws.specs.RowLaws.{summed_none}
use Rattle.plan_tables.specs.Layout.{task_row}
use Rattle.listing.specs.Listing.{task_lines}
use Rattle.listing_sizes.proofs.TextLaws.{sized_more, sized_all, tasks_text_law}
use native.Mathlib.Omega.{arith}
use Rattle.listing_sizes.proofs.size_tasks.Goals as goal

pub loop-task-init : goal.loop-task-init
loop-task-init c = summed_none

pub size_task-x-requires : goal.size_task-x-requires
size_task-x-requires c =
    let h = c.requires in
    let o = c.args.order.now in
    let n = c.args.n in
    let i = c.loop-task.task-index in
    let l : length (take n o) ≡ n = length-take-le n o (omega (arith, h.2.few, h.3, c.args.t.now.fit.tasks_few)) in
    let e : get_or (take n o) i 0 ≡ get_or o i 0 = get_or-take n o i 0 (omega arith) in
    (h.0, h.1, rw e (h.2.within _ (omega arith)))

pub loop-task-preserved : goal.loop-task-preserved
loop-task-preserved c =
    let h = c.requires in
    let o = c.args.order.now in
    let n = c.args.n in
    let i = c.loop-task.task-index in
    let l : length (take n o) ≡ n = length-take-le n o (omega (arith, h.2.few, h.3, c.args.t.now.fit.tasks_few)) in
    let e : get_or (take n o) i 0 ≡ get_or o i 0 = get_or-take n o i 0 (omega arith) in
    sized_more (task_lines _) (λ k. task_row c.args.t.now.tasks.now (get_or o k 0)) c.loop-task.invariant (omega arith) (rw e at c.size_task-x.ensures)

pub returns : goal.returns
returns c =
    let h = c.requires in
    let o = c.args.order.now in
    let n = c.args.n in
    let l : length (take n o) ≡ n = length-take-le n o (omega (arith, h.2.few, h.3, c.args.t.now.fit.tasks_few)) in
    sized_all (task_lines _) (λ k. task_row c.args.t.now.tasks.now (get_or o k 0)) c.loop-task.invariant 64 (omega (arith, h.2.few, c.args.t.now.fit.tasks_few)) (omega arith) (tasks_text_law _ h.2)
