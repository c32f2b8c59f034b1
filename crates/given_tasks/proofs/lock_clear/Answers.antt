use Rattle.given_tasks.proofs.Laws.{lock_told}
use Rattle.given_tasks.proofs.lock_clear.Goals as goal

pub returns : goal.returns
returns c =
    let a = c.args in
    lock_told a.owners.now a.opens.now a.guest a.v a.m a.x a.a c.at-owner.ensures c.reached-reach.ensures c.ranged-range.ensures c.run_clear-run.ensures
