-- `listing_lines::head_line` meets its contract. Assumes nothing.
use Rattle.text_letters.specs.WroteLaws.{wrote_as, fits_as}
use Rattle.listing_lines.specs.LineLaws.{head_bytes}
use Rattle.listing_lines.proofs.head_line.Goals as goal

pub put-requires : goal.put-requires
put-requires c = fits_as head_bytes c.requires

pub returns : goal.returns
returns c = wrote_as head_bytes c.put.ensures
