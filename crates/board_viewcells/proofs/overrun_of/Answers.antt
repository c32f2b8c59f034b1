-- `overrun_of` meets its contract.
use Rattle.figures.specs.Tabled.{system_in}
use Rattle.board_viewcells.proofs.FillLaws.{overrun_is}
use Rattle.board_viewcells.proofs.overrun_of.Goals as goal

pub returns : goal.returns
unfolding system_in
returns c = overrun_is _ _ c.overrun_by.ensures.is c.ght_of.ensures.is
