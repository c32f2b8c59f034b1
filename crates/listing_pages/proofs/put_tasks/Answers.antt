-- `put_tasks` meets its contract: the lines before this one are written.
use Rattle.std.proofs.Common.{◌≡◌, length, get_or, take, length-take-le, get_or-take}
use Rattle.listing_waits.specs.FilledLaws.{filled_none, filled_ends, filled_fits, filled_sum, filled_more, filled_all}
use Rattle.plan_tables.specs.Layout.{task_row}
use Rattle.listing.specs.Listing.{task_lines}
use Rattle.listing_sizes.proofs.TextLaws.{tasks_text_law}
use borrow.Author.Rules.{rules}
use native.Mathlib.Omega.{arith}
use Rattle.listing_pages.proofs.put_tasks.Goals as goal

pub loop-task-init : goal.loop-task-init
loop-task-init c = filled_none (task_lines _) (λ k. task_row c.args.t.now.tasks.now (get_or c.args.order.now k 0)) _ (tasks_text_law _ c.requires.2) c.requires.4

pub slice_bounds-put_task-count : goal.slice_bounds-put_task-count
slice_bounds-put_task-count c =
    let h = c.requires in
    let o = c.args.order.now in
    let n = c.args.n in
    let i = c.loop-task.task-index in
    let l : length (take n o) ≡ n = length-take-le n o (omega (arith, h.2.few, h.3, c.args.t.now.fit.tasks_few)) in
    let g = filled_ends (task_lines _) (λ k. task_row c.args.t.now.tasks.now (get_or c.args.order.now k 0)) c.loop-task.invariant (omega arith) in search rules

pub slice_bounds-put_task-start : goal.slice_bounds-put_task-start
slice_bounds-put_task-start c =
    let h = c.requires in
    let o = c.args.order.now in
    let n = c.args.n in
    let i = c.loop-task.task-index in
    let l : length (take n o) ≡ n = length-take-le n o (omega (arith, h.2.few, h.3, c.args.t.now.fit.tasks_few)) in
    let g = filled_ends (task_lines _) (λ k. task_row c.args.t.now.tasks.now (get_or c.args.order.now k 0)) c.loop-task.invariant (omega arith) in search rules

pub put_task-k-requires : goal.put_task-k-requires
put_task-k-requires c =
    let h = c.requires in
    let o = c.args.order.now in
    let n = c.args.n in
    let i = c.loop-task.task-index in
    let l : length (take n o) ≡ n = length-take-le n o (omega (arith, h.2.few, h.3, c.args.t.now.fit.tasks_few)) in
    let e : get_or (take n o) i 0 ≡ get_or o i 0 = get_or-take n o i 0 (omega arith) in
    (h.0, h.1, rw e (h.2.within _ (omega arith)), rw e (filled_fits (task_lines _) (λ k. task_row c.args.t.now.tasks.now (get_or c.args.order.now k 0)) c.loop-task.invariant (omega arith)))

pub overflow_add-at : goal.overflow_add-at
overflow_add-at c =
    let q = c.well_formed in
    let h = c.requires in
    let o = c.args.order.now in
    let n = c.args.n in
    let i = c.loop-task.task-index in
    let l : length (take n o) ≡ n = length-take-le n o (omega (arith, h.2.few, h.3, c.args.t.now.fit.tasks_few)) in
    let e : get_or (take n o) i 0 ≡ get_or o i 0 = get_or-take n o i 0 (omega arith) in
    let g = filled_sum (task_lines _) (λ k. task_row c.args.t.now.tasks.now (get_or c.args.order.now k 0)) c.loop-task.invariant (omega arith) (rw e at c.put_task-k.ensures) in search rules

pub loop-task-preserved : goal.loop-task-preserved
loop-task-preserved c =
    let h = c.requires in
    let o = c.args.order.now in
    let n = c.args.n in
    let i = c.loop-task.task-index in
    let l : length (take n o) ≡ n = length-take-le n o (omega (arith, h.2.few, h.3, c.args.t.now.fit.tasks_few)) in
    let e : get_or (take n o) i 0 ≡ get_or o i 0 = get_or-take n o i 0 (omega arith) in
    filled_more (task_lines _) (λ k. task_row c.args.t.now.tasks.now (get_or c.args.order.now k 0)) c.loop-task.invariant (omega arith) (rw e at c.put_task-k.ensures)

pub shape_of-out : goal.shape_of-out
shape_of-out c = c.loop-task.invariant.same

pub returns : goal.returns
returns c =
    let h = c.requires in
    let o = c.args.order.now in
    let n = c.args.n in
    let l : length (take n o) ≡ n = length-take-le n o (omega (arith, h.2.few, h.3, c.args.t.now.fit.tasks_few)) in
    filled_all (task_lines _) (λ k. task_row c.args.t.now.tasks.now (get_or c.args.order.now k 0)) c.loop-task.invariant (omega arith) (tasks_text_law _ c.requires.2)
