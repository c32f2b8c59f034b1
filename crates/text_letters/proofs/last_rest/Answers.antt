-- `text_letters::last_rest` meets its contract. Assumes nothing.
use borrow.Author.Rules.{rules}
use Rattle.laws.specs.Decimal.{decimal}
use Rattle.text_letters.specs.TabbedLaws.{rest_last}
use Rattle.text_letters.specs.WroteLaws.{first_fits, ends, rest_fits, both_fit, both_wrote}
use Rattle.text_letters.proofs.last_rest.Goals as goal

pub tab_number-k-requires : goal.tab_number-k-requires
tab_number-k-requires c =
    first_fits (rest_last (decimal c.args.n)) c.requires

pub slice_bounds-put_byte-count : goal.slice_bounds-put_byte-count
slice_bounds-put_byte-count c =
    let h = ends (rest_last (decimal c.args.n)) c.requires c.tab_number-k.ensures in search rules

pub slice_bounds-put_byte-start : goal.slice_bounds-put_byte-start
slice_bounds-put_byte-start c =
    let h = ends (rest_last (decimal c.args.n)) c.requires c.tab_number-k.ensures in search rules

pub put_byte-requires : goal.put_byte-requires
put_byte-requires c =
    rest_fits (rest_last (decimal c.args.n)) c.requires c.tab_number-k.ensures

pub overflow_add-result : goal.overflow_add-result
overflow_add-result c =
    let h = both_fit (rest_last (decimal c.args.n)) c.requires c.tab_number-k.ensures c.put_byte.ensures in search rules

pub returns : goal.returns
returns c =
    both_wrote (rest_last (decimal c.args.n)) c.requires c.tab_number-k.ensures c.put_byte.ensures
