-- `listing_lines::wait_line` meets its contract. Assumes nothing.
use borrow.Author.Rules.{rules}
use Rattle.laws.specs.Decimal.{decimal}
use Rattle.listing.specs.Listing.{w_wait, wait_fields}
use Rattle.listing_lines.specs.LineLaws.{line_three}
use mathlib.Core.List.{◌∷◌}
use Rattle.text_letters.specs.WroteLaws.{first_fits, ends, rest_fits, both_fit, both_wrote}
use Rattle.listing_lines.proofs.wait_line.Goals as goal

pub word_two-k-requires : goal.word_two-k-requires
word_two-k-requires c =
    first_fits (line_three w_wait (decimal c.args.v) (decimal c.args.n) (decimal c.args.place ∷ wait_fields c.args.a)) c.requires

pub slice_bounds-wait_rest-count : goal.slice_bounds-wait_rest-count
slice_bounds-wait_rest-count c =
    let h = ends (line_three w_wait (decimal c.args.v) (decimal c.args.n) (decimal c.args.place ∷ wait_fields c.args.a)) c.requires c.word_two-k.ensures in search rules

pub slice_bounds-wait_rest-start : goal.slice_bounds-wait_rest-start
slice_bounds-wait_rest-start c =
    let h = ends (line_three w_wait (decimal c.args.v) (decimal c.args.n) (decimal c.args.place ∷ wait_fields c.args.a)) c.requires c.word_two-k.ensures in search rules

pub wait_rest-requires : goal.wait_rest-requires
wait_rest-requires c =
    rest_fits (line_three w_wait (decimal c.args.v) (decimal c.args.n) (decimal c.args.place ∷ wait_fields c.args.a)) c.requires c.word_two-k.ensures

pub overflow_add-result : goal.overflow_add-result
overflow_add-result c =
    let h = both_fit (line_three w_wait (decimal c.args.v) (decimal c.args.n) (decimal c.args.place ∷ wait_fields c.args.a)) c.requires c.word_two-k.ensures c.wait_rest.ensures in search rules

pub returns : goal.returns
returns c =
    both_wrote (line_three w_wait (decimal c.args.v) (decimal c.args.n) (decimal c.args.place ∷ wait_fields c.args.a)) c.requires c.word_two-k.ensures c.wait_rest.ensures
