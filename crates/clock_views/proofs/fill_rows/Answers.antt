-- `fill_rows` meets its contract: the rows of the seats before this one are written.
use Rattle.clock_cells.specs.FillLaws.{listed_all, listed_more, listed_none}
use Rattle.clock_views.proofs.fill_rows.Goals as goal

pub loop-i-init : goal.loop-i-init
loop-i-init c = listed_none c.requires

pub loop-i-preserved : goal.loop-i-preserved
loop-i-preserved c = listed_more c.loop-i.invariant c.loop-i-test.true c.task_row-a.ensures

pub returns : goal.returns
returns c = listed_all c.loop-i.invariant c.loop-i-test.false
