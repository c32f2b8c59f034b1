use Rattle.board_reserves.specs.SupplyLaws.{supply_counts}
use Rattle.board_reserves.proofs.supply.Goals as goal

pub returns : goal.returns
returns c =
    let a = c.args in
    rw (c.capped.ensures, c.figure-2.ensures, c.counted-extra.ensures, c.reserve-o.ensures, c.figure.ensures, c.mark.ensures)
    (supply_counts a.choice a.view.now a.left.now a.over.now a.stopped.now a.holder.now a.v)
