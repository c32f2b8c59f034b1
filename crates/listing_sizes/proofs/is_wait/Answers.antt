-- `is_wait` meets its contract.
use Rattle.listing_sizes.proofs.TextLaws.{wait_is}
use Rattle.listing_sizes.proofs.is_wait.Goals as goal

pub returns : goal.returns
returns c = wait_is _ _ _ _ c.lock_cell-m.ensures.is c.is_global.ensures
