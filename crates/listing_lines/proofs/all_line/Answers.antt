-- `listing_lines::all_line` meets its contract. Assumes nothing.
use Rattle.text_letters.specs.WroteLaws.{wrote_as, fits_as}
use Rattle.listing_lines.specs.LineLaws.{all_bytes}
use Rattle.listing_lines.proofs.all_line.Goals as goal

pub put-requires : goal.put-requires
put-requires c = fits_as (all_bytes c.args.fits c.pick-w.ensures) c.requires

pub returns : goal.returns
returns c = wrote_as (all_bytes c.args.fits c.pick-w.ensures) c.put.ensures
