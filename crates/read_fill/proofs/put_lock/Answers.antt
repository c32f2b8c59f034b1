-- `read_fill::put_lock` meets its contract.
use Rattle.read_fill.proofs.Laws.{lock_told}
use Rattle.read_fill.proofs.put_lock.Goals as goal

pub returns : goal.returns
returns c =
    lock_told _ _ _ c.mark_in-on.ensures c.last_row-k.ensures.is c.place-j.ensures.is c.bump.ensures c.put.ensures c.put_two.ensures
