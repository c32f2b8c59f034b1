-- `read_fill::put_mutex` meets its contract.
use Rattle.read_fill.specs.Fill.{mutex_put}
use Rattle.read_fill.proofs.Laws.{two_told}
use Rattle.read_fill.proofs.put_mutex.Goals as goal

pub returns : goal.returns
unfolding mutex_put
returns c =
    two_told 6 _ _ _ c.mark_in-on.ensures c.place.ensures.is c.put_two.ensures
