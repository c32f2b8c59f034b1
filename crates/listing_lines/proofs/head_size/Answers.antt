-- `listing_lines::head_size` meets its contract. Assumes nothing.
use Rattle.listing_lines.specs.SizeLaws.{head_sized}
use Rattle.listing_lines.proofs.head_size.Goals as goal

pub returns : goal.returns
returns c = head_sized
