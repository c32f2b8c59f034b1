-- `local_ticks` meets its contract.
use Rattle.figures.specs.PartLaws.{is_in, is_out}
use Rattle.plan_tables.specs.Layout.{lock_row, task_row}
use Rattle.figures_sections.proofs.local_ticks.Goals as goal

pub returns-then-counts_local : goal.returns-then-counts_local
unfolding lock_row task_row
returns-then-counts_local c = is_in c.counts_local.ensures c.if-counts_local.true c.lock_cell.ensures

pub returns-else-counts_local : goal.returns-else-counts_local
unfolding lock_row task_row
returns-else-counts_local c = is_out _ _ c.counts_local.ensures c.if-counts_local.false
