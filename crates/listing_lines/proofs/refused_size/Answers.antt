-- `listing_lines::refused_size` meets its contract. Assumes nothing.
use mathlib.Core.List.{[], ◌∷◌}
use Rattle.laws.specs.Decimal.{decimal}
use Rattle.listing.specs.Listing.{w_refused}
use Rattle.listing_lines.specs.LineLaws.{refused_text}
use Rattle.text_letters.specs.SizeLaws.{sized_as, rest_sized, end_sized}
use Rattle.listing_lines.specs.SizeLaws.{line_sized}
use Rattle.listing_lines.proofs.refused_size.Goals as goal

pub returns : goal.returns
returns c =
    let n = c.number_of-n in
    let a = c.args.c in
    sized_as (refused_text a n.ensures)
    (line_sized w_refused (decimal n.result ∷ decimal a.line ∷ decimal a.field ∷ [])
    (rest_sized (decimal a.line ∷ decimal a.field ∷ []) c.number_size-x.ensures
    (rest_sized (decimal a.field ∷ []) c.number_size-y.ensures (rest_sized [] c.number_size-z.ensures end_sized))))
