use Rattle.given_tasks.proofs.Laws.{lock_row_law}
use Rattle.given_tasks.proofs.lock_at.Goals as goal

pub returns : goal.returns
returns c =
    let a = c.args in
    lock_row_law a.owners.now a.opens.now a.t.now a.guest a.v a.i a.j c.cell-m.ensures c.cell-x.ensures c.cell-a.ensures c.lock_clear.ensures
