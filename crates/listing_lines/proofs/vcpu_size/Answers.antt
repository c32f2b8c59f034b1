-- `listing_lines::vcpu_size` meets its contract. Assumes nothing.
use mathlib.Core.List.{◌∷◌}
use Rattle.laws.specs.Decimal.{decimal}
use Rattle.plan.specs.Line.{w_vcpu}
use Rattle.listing.specs.Listing.{answer_fields}
use Rattle.text_letters.specs.SizeLaws.{rest_sized}
use Rattle.listing_lines.specs.SizeLaws.{line_sized}
use Rattle.listing_lines.proofs.vcpu_size.Goals as goal

pub returns : goal.returns
returns c =
    let a = c.args in
    line_sized w_vcpu (decimal a.v ∷ answer_fields a.a) (rest_sized (answer_fields a.a) c.number_size-x.ensures c.task_rest_size-y.ensures)
