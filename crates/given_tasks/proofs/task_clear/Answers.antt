use Rattle.given_tasks.proofs.Laws.{task_row_law}
use Rattle.given_tasks.proofs.task_clear.Goals as goal

pub returns : goal.returns
returns c =
    let a = c.args in
    task_row_law a.guests.now a.hosted.now a.owners.now a.opens.now a.t.now a.on a.f a.guest a.i c.guest_clear-named.ensures c.head_at-head.ensures c.cell-v.ensures c.cell-count.ensures c.locks_clear-locks.ensures
