-- `listing_lines::parts_of` meets its contract. Assumes nothing.
use mathlib.Core.Path.{ap, sym}
use Rattle.listing_lines.specs.Lines.{parts_of}
use Rattle.listing_lines.proofs.parts_of.Goals as goal

pub returns-in-Fits : goal.returns-in-Fits
returns-in-Fits c = ap parts_of (sym c.in-Fits.is)

pub returns-in-Late : goal.returns-in-Late
returns-in-Late c = ap parts_of (sym c.in-Late.is)
