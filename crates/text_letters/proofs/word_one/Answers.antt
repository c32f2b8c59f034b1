-- `text_letters::word_one` meets its contract. Assumes nothing.
use borrow.Author.Rules.{rules}
use Rattle.laws.specs.Decimal.{decimal}
use Rattle.text_letters.specs.Tabbed.{tabbed}
use Rattle.text_letters.specs.WroteLaws.{joins, first_fits, ends, rest_fits, both_fit, both_wrote}
use Rattle.text_letters.proofs.word_one.Goals as goal

pub put-k-requires : goal.put-k-requires
put-k-requires c =
    first_fits (joins c.args.w.now (tabbed (decimal c.args.v))) c.requires

pub slice_bounds-tab_number-count : goal.slice_bounds-tab_number-count
slice_bounds-tab_number-count c =
    let h = ends (joins c.args.w.now (tabbed (decimal c.args.v))) c.requires c.put-k.ensures in search rules

pub slice_bounds-tab_number-start : goal.slice_bounds-tab_number-start
slice_bounds-tab_number-start c =
    let h = ends (joins c.args.w.now (tabbed (decimal c.args.v))) c.requires c.put-k.ensures in search rules

pub tab_number-requires : goal.tab_number-requires
tab_number-requires c =
    rest_fits (joins c.args.w.now (tabbed (decimal c.args.v))) c.requires c.put-k.ensures

pub overflow_add-result : goal.overflow_add-result
overflow_add-result c =
    let h = both_fit (joins c.args.w.now (tabbed (decimal c.args.v))) c.requires c.put-k.ensures c.tab_number.ensures in search rules

pub returns : goal.returns
returns c =
    both_wrote (joins c.args.w.now (tabbed (decimal c.args.v))) c.requires c.put-k.ensures c.tab_number.ensures
