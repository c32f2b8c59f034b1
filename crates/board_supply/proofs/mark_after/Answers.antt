use mathlib.Core.Path.{◌∙◌}
use Rattle.board_reserves.specs.SupplyLaws.{mark_stays}
use Rattle.board_supply.proofs.mark_after.Goals as goal

pub returns-in-Periodic : goal.returns-in-Periodic
returns-in-Periodic c = rw c.in-Periodic.is c.next_mark.ensures

pub returns-in-Deferrable : goal.returns-in-Deferrable
returns-in-Deferrable c = let a = c.args in
    rw c.in-Deferrable.is (c.mark.ensures ∙ mark_stays a.view.now a.left.now a.stopped.now a.holder.now a.v)
