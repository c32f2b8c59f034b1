-- `put_task` meets its contract.
use Rattle.search.specs.Row.{pushed}
use Rattle.figures_slices.specs.CostLaws.{row_same}
use mathlib.Core.Path.{◌∙◌, ap}
use Rattle.answers_puts.proofs.put_task.Goals as goal

pub returns : goal.returns
returns c = c.push_row.ensures ∙ ap (pushed _ _) (row_same c.task_kind-x.ensures c.task_ticks-y.ensures c.task_rounds-z.ensures)
