-- `text_letters::ticks_size` meets its contract. Assumes nothing.
use mathlib.Core.List.{[], ◌∷◌}
use Rattle.laws.specs.Decimal.{decimal}
use Rattle.text_letters.specs.SizeLaws.{rest_sized, end_sized}
use Rattle.text_letters.proofs.ticks_size.Goals as goal

pub returns : goal.returns
returns c = rest_sized (decimal c.args.n ∷ []) c.choice_size-x.ensures (rest_sized [] c.number_size-y.ensures end_sized)
