-- `put_answer` meets its contract.
use Rattle.search.specs.Row.{pushed}
use Rattle.figures_slices.specs.CostLaws.{row_same}
use mathlib.Core.Path.{◌∙◌, ap}
use Rattle.answers_waits.proofs.put_answer.Goals as goal

pub returns : goal.returns
returns c = c.push_row.ensures ∙ ap (pushed _ _) (row_same c.kind_of-x.ensures c.ticks_of-y.ensures c.rounds_of-z.ensures)
