use Rattle.given_test.proofs.Laws.{vcpu_fed}
use Rattle.given_test.proofs.fed_vcpu.Goals as goal

pub returns : goal.returns
returns c =
    let x = c.args in
    vcpu_fed x.run x.t.now x.i c.cell-v.ensures c.cell-guest.ensures
    c.cell-core.ensures c.cell-budget.ensures c.cell-period.ensures c.fed.ensures
