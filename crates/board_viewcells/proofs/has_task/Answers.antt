-- `has_task` meets its contract: the row of a task that is there is one of the rows.
use Rattle.figures_found.specs.First.{task_test}
use mathlib.Core.Path.{sym}
use Rattle.board_viewcells.proofs.has_task.Goals as goal

pub returns : goal.returns
returns c = sym (task_test _ _ _ _ _ _ c.task_row.ensures)
