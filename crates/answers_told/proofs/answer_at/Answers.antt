-- `answer_at` meets its contract.
use Rattle.answers_told.specs.Read.{answer_in}
use Rattle.answers_told.proofs.answer_at.Goals as goal

pub returns : goal.returns
unfolding answer_in
returns c = c.answer_of.ensures
