use Rattle.given_test.specs.RowLaws.{mutex_fed}
use Rattle.given_test.proofs.fed_mutex.Goals as goal

pub returns : goal.returns
returns c =
    let x = c.args in
    mutex_fed x.run x.t.now x.i c.cell-m.ensures c.cell-owner.ensures c.owner_kind-kind.ensures
    c.fed.ensures
