-- `size_vcpu` meets its contract.
use Rattle.text_letters.specs.SizeLaws.{sized_as}
use Rattle.listing_sizes.proofs.TextLaws.{vcpu_text_law}
use Rattle.listing_sizes.proofs.size_vcpu.Goals as goal

pub returns : goal.returns
returns c = let h = c.requires in sized_as (vcpu_text_law h.0 _ h.1 c.vcpu_cell-v.ensures.is c.answer_at-x.ensures) c.vcpu_size.ensures
