use Rattle.given_tasks.proofs.Laws.{head_row}
use Rattle.given_tasks.proofs.head_at.Goals as goal

pub returns : goal.returns
returns c =
    let a = c.args in
    head_row a.guests.now a.t.now a.on a.guest a.i c.prior-last.ensures c.cell.ensures c.of_last-w.ensures c.cell-2.ensures c.of_last-k.ensures c.cell-v.ensures c.cell-n.ensures c.cell-p.ensures c.cell-a.ensures c.head_clear.ensures
