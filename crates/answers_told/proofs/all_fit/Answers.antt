-- `all_fit` meets its contract.
use Rattle.answers_told.specs.ReadLaws.{all_read}
use Rattle.answers_told.proofs.all_fit.Goals as goal

pub returns : goal.returns
returns c = let h = c.requires in all_read h.0 h.1 c.rows_fit.ensures c.rows_fit-2.ensures
