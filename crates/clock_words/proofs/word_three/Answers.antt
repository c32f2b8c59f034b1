-- `clock_words::word_three` meets its contract.
use borrow.Author.Rules.{rules}
use mathlib.Core.List.{◌++◌}
use Rattle.laws.specs.Decimal.{decimal}
use Rattle.text_letters.specs.Tabbed.{tabbed}
use Rattle.text_letters.specs.WroteLaws.{joins, first_fits, ends, rest_fits, both_fit, both_wrote}
use Rattle.clock_words.proofs.word_three.Goals as goal

pub word_two-k-requires : goal.word_two-k-requires
word_two-k-requires c =
    first_fits (joins ((c.args.w.now ++ tabbed (decimal c.args.v)) ++ tabbed (decimal c.args.n)) (tabbed (decimal c.args.m))) c.requires

pub slice_bounds-tab_number-count : goal.slice_bounds-tab_number-count
slice_bounds-tab_number-count c =
    let h = ends (joins ((c.args.w.now ++ tabbed (decimal c.args.v)) ++ tabbed (decimal c.args.n)) (tabbed (decimal c.args.m))) c.requires c.word_two-k.ensures in search rules

pub slice_bounds-tab_number-start : goal.slice_bounds-tab_number-start
slice_bounds-tab_number-start c =
    let h = ends (joins ((c.args.w.now ++ tabbed (decimal c.args.v)) ++ tabbed (decimal c.args.n)) (tabbed (decimal c.args.m))) c.requires c.word_two-k.ensures in search rules

pub tab_number-requires : goal.tab_number-requires
tab_number-requires c =
    rest_fits (joins ((c.args.w.now ++ tabbed (decimal c.args.v)) ++ tabbed (decimal c.args.n)) (tabbed (decimal c.args.m))) c.requires c.word_two-k.ensures

pub overflow_add-result : goal.overflow_add-result
overflow_add-result c =
    let h = both_fit (joins ((c.args.w.now ++ tabbed (decimal c.args.v)) ++ tabbed (decimal c.args.n)) (tabbed (decimal c.args.m))) c.requires c.word_two-k.ensures c.tab_number.ensures in search rules

pub returns : goal.returns
returns c =
    both_wrote (joins ((c.args.w.now ++ tabbed (decimal c.args.v)) ++ tabbed (decimal c.args.n)) (tabbed (decimal c.args.m))) c.requires c.word_two-k.ensures c.tab_number.ensures
