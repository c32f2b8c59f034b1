use Rattle.given_test.proofs.Laws.{open_fed}
use Rattle.given_test.proofs.fed_open.Goals as goal

pub returns : goal.returns
returns c =
    let x = c.args in
    open_fed x.run x.t.now x.i c.cell-m.ensures c.cell-guest.ensures c.fed.ensures
