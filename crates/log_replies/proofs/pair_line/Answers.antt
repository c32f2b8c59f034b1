-- `log_replies::pair_line` meets its contract.
use mathlib.Core.Path.{ap}
use mathlib.Core.List.{[], ◌∷◌}
use Rattle.laws.specs.Decimal.{decimal}
use Rattle.listing.specs.Listing.{line}
use Rattle.text_letters.specs.WroteLaws.{wrote_as, fits_as}
use Rattle.log_replies.specs.PartsLaws.{pair_bytes}
use Rattle.log_replies.proofs.pair_line.Goals as goal

pub two_line-requires : goal.two_line-requires
two_line-requires c =
    fits_as (ap (λ w. line (w ∷ decimal c.args.x ∷ decimal c.args.y ∷ [])) (pair_bytes c.args.word c.pick-later.ensures c.pick-w.ensures)) c.requires

pub returns : goal.returns
returns c =
    wrote_as (ap (λ w. line (w ∷ decimal c.args.x ∷ decimal c.args.y ∷ [])) (pair_bytes c.args.word c.pick-later.ensures c.pick-w.ensures)) c.two_line.ensures
