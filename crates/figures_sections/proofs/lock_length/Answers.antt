-- `lock_length` meets its contract.
use Rattle.figures.specs.PartLaws.{is_sum}
use Rattle.plan_tables.specs.Layout.{lock_row}
use Rattle.figures_sections.proofs.lock_length.Goals as goal

pub returns : goal.returns
unfolding lock_row
returns c = is_sum c.lock_cell.ensures c.lock_cell-2.ensures
