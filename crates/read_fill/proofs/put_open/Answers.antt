-- `read_fill::put_open` meets its contract.
use Rattle.read_fill.specs.Fill.{open_put}
use Rattle.read_fill.proofs.Laws.{two_told}
use Rattle.read_fill.proofs.put_open.Goals as goal

pub returns : goal.returns
unfolding open_put
returns c =
    two_told 7 _ _ _ c.mark_in-on.ensures c.place.ensures.is c.put_two.ensures
