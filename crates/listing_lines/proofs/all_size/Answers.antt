-- `listing_lines::all_size` meets its contract. Assumes nothing.
use Rattle.listing_lines.specs.SizeLaws.{all_sized}
use Rattle.listing_lines.proofs.all_size.Goals as goal

pub returns : goal.returns
returns c = all_sized c.args.fits
