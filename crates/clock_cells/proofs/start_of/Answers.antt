-- `start_of` meets its contract: the ticks of the locks before this one are summed up.
use Rattle.figures.specs.PartLaws.{is_sum}
use Rattle.laws.specs.RowLaws.{summed_all, summed_more, summed_none}
use borrow.Author.Rules.{rules}
use Rattle.clock_cells.proofs.start_of.Goals as goal

pub loop-i-init : goal.loop-i-init
loop-i-init c = summed_none

pub loop-i-preserved : goal.loop-i-preserved
loop-i-preserved c = summed_more c.loop-i.invariant c.loop-i-test.true c.span_of-x.ensures

pub returns : goal.returns
returns c = is_sum {l = 16000000} c.task_cell.ensures (summed_all 8 (search rules) c.loop-i.invariant c.loop-i-test.false)
