-- `listing_lines::wait_rest` meets its contract. Assumes nothing.
use borrow.Author.Rules.{rules}
use Rattle.laws.specs.Decimal.{decimal}
use Rattle.listing_lines.specs.LineLaws.{wait_rest}
use Rattle.text_letters.specs.WroteLaws.{first_fits, ends, rest_fits, both_fit, both_wrote}
use Rattle.listing_lines.proofs.wait_rest.Goals as goal

pub tab_number-k-requires : goal.tab_number-k-requires
tab_number-k-requires c =
    first_fits (wait_rest c.args.a (decimal c.args.place) c.parts_of-p.ensures) c.requires

pub slice_bounds-ticks_rest-count : goal.slice_bounds-ticks_rest-count
slice_bounds-ticks_rest-count c =
    let h = ends (wait_rest c.args.a (decimal c.args.place) c.parts_of-p.ensures) c.requires c.tab_number-k.ensures in search rules

pub slice_bounds-ticks_rest-start : goal.slice_bounds-ticks_rest-start
slice_bounds-ticks_rest-start c =
    let h = ends (wait_rest c.args.a (decimal c.args.place) c.parts_of-p.ensures) c.requires c.tab_number-k.ensures in search rules

pub ticks_rest-requires : goal.ticks_rest-requires
ticks_rest-requires c =
    rest_fits (wait_rest c.args.a (decimal c.args.place) c.parts_of-p.ensures) c.requires c.tab_number-k.ensures

pub overflow_add-result : goal.overflow_add-result
overflow_add-result c =
    let h = both_fit (wait_rest c.args.a (decimal c.args.place) c.parts_of-p.ensures) c.requires c.tab_number-k.ensures c.ticks_rest.ensures in search rules

pub returns : goal.returns
returns c =
    both_wrote (wait_rest c.args.a (decimal c.args.place) c.parts_of-p.ensures) c.requires c.tab_number-k.ensures c.ticks_rest.ensures
