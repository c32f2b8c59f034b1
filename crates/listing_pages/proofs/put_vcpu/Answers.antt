-- `put_vcpu` meets its contract.
use Rattle.text_letters.specs.WroteLaws.{wrote_as, fits_as}
use Rattle.listing_sizes.proofs.TextLaws.{vcpu_text_law}
use Rattle.listing_pages.proofs.put_vcpu.Goals as goal

pub vcpu_line-requires : goal.vcpu_line-requires
vcpu_line-requires c = let h = c.requires in fits_as (vcpu_text_law h.0 _ h.1 c.vcpu_cell-v.ensures.is c.answer_at-x.ensures) h.2

pub returns : goal.returns
returns c = let h = c.requires in wrote_as (vcpu_text_law h.0 _ h.1 c.vcpu_cell-v.ensures.is c.answer_at-x.ensures) c.vcpu_line.ensures
