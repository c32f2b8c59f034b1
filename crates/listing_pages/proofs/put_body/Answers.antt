-- `put_body` meets its contract.
use Rattle.text_letters.specs.WroteLaws.{first_fits, ends, rest_fits, both_fit, both_wrote}
use Rattle.listing_sizes.proofs.TextLaws.{vcpus_joins}
use borrow.Author.Rules.{rules}
use Rattle.listing_pages.proofs.put_body.Goals as goal

pub put_vcpus-k-requires : goal.put_vcpus-k-requires
put_vcpus-k-requires c = let h = c.requires in (h.0.vcpus, first_fits (vcpus_joins _) h.3)

pub slice_bounds-put_tail-count : goal.slice_bounds-put_tail-count
slice_bounds-put_tail-count c = let h = c.requires in let z = ends (vcpus_joins _) h.3 c.put_vcpus-k.ensures in search rules

pub slice_bounds-put_tail-start : goal.slice_bounds-put_tail-start
slice_bounds-put_tail-start c = let h = c.requires in let z = ends (vcpus_joins _) h.3 c.put_vcpus-k.ensures in search rules

pub put_tail-requires : goal.put_tail-requires
put_tail-requires c = let h = c.requires in (h.0, h.1, h.2, rest_fits (vcpus_joins _) h.3 c.put_vcpus-k.ensures)

pub overflow_add-result : goal.overflow_add-result
overflow_add-result c = let q = c.well_formed in let z = both_fit (vcpus_joins _) c.requires.3 c.put_vcpus-k.ensures c.put_tail.ensures in search rules

pub returns : goal.returns
returns c = let h = c.requires in both_wrote (vcpus_joins _) h.3 c.put_vcpus-k.ensures c.put_tail.ensures
