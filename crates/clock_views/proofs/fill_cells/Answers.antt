-- `fill_cells` meets its contract: the numbers before this one are written.
use Rattle.clock_cells.specs.CellLaws.{times_length_law}
use Rattle.clock_cells.specs.FillLaws.{listed_is, listed_more, listed_none}
use Rattle.clock_views.proofs.fill_cells.Goals as goal

pub loop-k-init : goal.loop-k-init
loop-k-init c = listed_none c.requires.1

pub loop-k-preserved : goal.loop-k-preserved
loop-k-preserved c = listed_more c.loop-k.invariant c.loop-k-test.true c.times_cell-x.ensures

pub returns : goal.returns
returns c = listed_is _ (times_length_law _) c.loop-k.invariant c.loop-k-test.false
