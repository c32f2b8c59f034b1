use Rattle.board_reserves.specs.SupplyLaws.{idle_asked, idle_spared}
use Rattle.board_supply.proofs.idle.Goals as goal

pub returns-then-both : goal.returns-then-both
returns-then-both c =
    let a = c.args in
    idle_asked a.view.now a.left.now a.holder.now a.v c.has_vcpu.ensures c.figure.ensures c.both.ensures c.if-both.true
    c.holds_global.ensures c.no.ensures

pub returns : goal.returns
returns c =
    let a = c.args in
    idle_spared a.view.now a.left.now a.holder.now a.v c.has_vcpu.ensures c.figure.ensures c.both.ensures c.if-both.false
