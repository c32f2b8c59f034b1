-- `listing_lines::task_size` meets its contract. Assumes nothing.
use mathlib.Core.List.{◌∷◌}
use Rattle.laws.specs.Decimal.{decimal}
use Rattle.plan.specs.Line.{w_task}
use Rattle.listing.specs.Listing.{task_fields}
use Rattle.text_letters.specs.SizeLaws.{rest_sized}
use Rattle.listing_lines.specs.SizeLaws.{line_sized}
use Rattle.listing_lines.proofs.task_size.Goals as goal

pub returns : goal.returns
returns c =
    let a = c.args in
    line_sized w_task (decimal a.v ∷ decimal a.n ∷ (task_fields a.a))
    (rest_sized (decimal a.n ∷ (task_fields a.a)) c.number_size-x.ensures
    (rest_sized (task_fields a.a) c.number_size-y.ensures c.task_rest_size-z.ensures))
