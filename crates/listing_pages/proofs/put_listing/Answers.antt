-- `put_listing` meets its contract.
use Rattle.text_letters.specs.WroteLaws.{first_fits, ends, rest_fits, both_fit, both_wrote}
use Rattle.listing_sizes.proofs.TextLaws.{listing_joins}
use borrow.Author.Rules.{rules}
use Rattle.listing_pages.proofs.put_listing.Goals as goal

pub head_line-k-requires : goal.head_line-k-requires
head_line-k-requires c = let h = c.requires in first_fits (listing_joins _) h.3

pub slice_bounds-put_body-count : goal.slice_bounds-put_body-count
slice_bounds-put_body-count c = let h = c.requires in let z = ends (listing_joins _) h.3 c.head_line-k.ensures in search rules

pub slice_bounds-put_body-start : goal.slice_bounds-put_body-start
slice_bounds-put_body-start c = let h = c.requires in let z = ends (listing_joins _) h.3 c.head_line-k.ensures in search rules

pub put_body-requires : goal.put_body-requires
put_body-requires c = let h = c.requires in (h.0, h.1, h.2, rest_fits (listing_joins _) h.3 c.head_line-k.ensures)

pub overflow_add-result : goal.overflow_add-result
overflow_add-result c = let q = c.well_formed in let z = both_fit (listing_joins _) c.requires.3 c.head_line-k.ensures c.put_body.ensures in search rules

pub returns : goal.returns
returns c = let h = c.requires in both_wrote (listing_joins _) h.3 c.head_line-k.ensures c.put_body.ensures
