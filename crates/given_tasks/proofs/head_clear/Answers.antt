use Rattle.given_tasks.proofs.Laws.{head_told}
use Rattle.given_tasks.proofs.head_clear.Goals as goal

pub returns : goal.returns
returns c =
    let a = c.args in
    head_told a.guests.now a.guest a.w a.k a.v a.n a.p a.a c.at-host.ensures c.rises-order.ensures c.within.ensures c.ranged.ensures c.run_clear-run.ensures
