-- `span_of` meets its contract.
use Rattle.figures.specs.PartLaws.{is_sum}
use Rattle.plan_tables.specs.Layout.{lock_row}
use Rattle.clock_cells.proofs.span_of.Goals as goal

pub returns : goal.returns
unfolding lock_row
returns c = is_sum c.lock_cell.ensures c.lock_cell-2.ensures
