-- `listing_lines::wait_size` meets its contract. Assumes nothing.
use mathlib.Core.List.{◌∷◌}
use Rattle.laws.specs.Decimal.{decimal}
use Rattle.listing.specs.Listing.{w_wait, wait_fields}
use Rattle.text_letters.specs.SizeLaws.{rest_sized}
use Rattle.listing_lines.specs.SizeLaws.{line_sized}
use Rattle.listing_lines.proofs.wait_size.Goals as goal

pub returns : goal.returns
returns c =
    let a = c.args in
    line_sized w_wait (decimal a.v ∷ decimal a.n ∷ (decimal a.place ∷ wait_fields a.a))
    (rest_sized (decimal a.n ∷ (decimal a.place ∷ wait_fields a.a)) c.number_size-x.ensures
    (rest_sized (decimal a.place ∷ wait_fields a.a) c.number_size-y.ensures c.wait_rest_size-z.ensures))
