-- `has_room` meets its contract.
use lib.Dec.{leb}
use mathlib.Core.Path.{ap}
use Rattle.listing_puts.proofs.has_room.Goals as goal

pub returns : goal.returns
returns c = ap (λ k. leb k c.args.room) c.listing_size-size.ensures.is
