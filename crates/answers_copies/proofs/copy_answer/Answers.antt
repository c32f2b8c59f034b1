-- `copy_answer` meets its contract.
use Rattle.search.specs.Row.{row_in}
use Rattle.answers_copies.proofs.copy_answer.Goals as goal

pub returns : goal.returns
unfolding row_in
returns c = c.push_row.ensures
