-- `listing_lines::wait_rest_size` meets its contract. Assumes nothing.
use Rattle.laws.specs.Decimal.{decimal}
use Rattle.listing_lines.specs.LineLaws.{wait_rest}
use Rattle.text_letters.specs.SizeLaws.{tabbed_sized}
use Rattle.listing_lines.proofs.wait_rest_size.Goals as goal

pub returns : goal.returns
returns c =
    let a = c.args in
    tabbed_sized (wait_rest a.a (decimal a.place) c.parts_of-p.ensures) c.number_size-x.ensures c.ticks_size-y.ensures
