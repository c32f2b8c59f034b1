-- `records_saved::lock_of` meets its contract.
use Rattle.records.specs.SaveLaws.{lock_read}
use Rattle.records_saved.proofs.lock_of.Goals as goal

pub returns : goal.returns
returns c = lock_read _ _ _ _ _ _ c.at.ensures c.at-2.ensures c.at-3.ensures
