-- `text_letters::ticks_rest` meets its contract. Assumes nothing.
use borrow.Author.Rules.{rules}
use Rattle.laws.specs.Decimal.{decimal}
use Rattle.text_letters.specs.TabbedLaws.{rest_joins}
use Rattle.text_letters.specs.Tabbed.{number_or}
use mathlib.Core.List.{[], ◌∷◌}
use Rattle.text_letters.specs.WroteLaws.{first_fits, ends, rest_fits, both_fit, both_wrote}
use Rattle.text_letters.proofs.ticks_rest.Goals as goal

pub tab_choice-k-requires : goal.tab_choice-k-requires
tab_choice-k-requires c =
    first_fits (rest_joins (number_or c.args.c c.args.t c.args.w.now) (decimal c.args.n ∷ [])) c.requires

pub slice_bounds-last_rest-count : goal.slice_bounds-last_rest-count
slice_bounds-last_rest-count c =
    let h = ends (rest_joins (number_or c.args.c c.args.t c.args.w.now) (decimal c.args.n ∷ [])) c.requires c.tab_choice-k.ensures in search rules

pub slice_bounds-last_rest-start : goal.slice_bounds-last_rest-start
slice_bounds-last_rest-start c =
    let h = ends (rest_joins (number_or c.args.c c.args.t c.args.w.now) (decimal c.args.n ∷ [])) c.requires c.tab_choice-k.ensures in search rules

pub last_rest-requires : goal.last_rest-requires
last_rest-requires c =
    rest_fits (rest_joins (number_or c.args.c c.args.t c.args.w.now) (decimal c.args.n ∷ [])) c.requires c.tab_choice-k.ensures

pub overflow_add-result : goal.overflow_add-result
overflow_add-result c =
    let h = both_fit (rest_joins (number_or c.args.c c.args.t c.args.w.now) (decimal c.args.n ∷ [])) c.requires c.tab_choice-k.ensures c.last_rest.ensures in search rules

pub returns : goal.returns
returns c =
    both_wrote (rest_joins (number_or c.args.c c.args.t c.args.w.now) (decimal c.args.n ∷ [])) c.requires c.tab_choice-k.ensures c.last_rest.ensures
