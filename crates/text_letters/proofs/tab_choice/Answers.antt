-- `text_letters::tab_choice` meets its contract. Assumes nothing.
use borrow.Author.Rules.{rules}
use Rattle.plan.specs.Limits.{tab}
use Rattle.text_letters.specs.Tabbed.{number_or}
use mathlib.Core.List.{[], ◌∷◌}
use Rattle.text_letters.specs.WroteLaws.{joins, first_fits, ends, rest_fits, both_fit, both_wrote}
use Rattle.text_letters.proofs.tab_choice.Goals as goal

pub put_byte-k-requires : goal.put_byte-k-requires
put_byte-k-requires c =
    first_fits (joins (tab ∷ []) (number_or c.args.c c.args.n c.args.w.now)) c.requires

pub slice_bounds-put_choice-count : goal.slice_bounds-put_choice-count
slice_bounds-put_choice-count c =
    let h = ends (joins (tab ∷ []) (number_or c.args.c c.args.n c.args.w.now)) c.requires c.put_byte-k.ensures in search rules

pub slice_bounds-put_choice-start : goal.slice_bounds-put_choice-start
slice_bounds-put_choice-start c =
    let h = ends (joins (tab ∷ []) (number_or c.args.c c.args.n c.args.w.now)) c.requires c.put_byte-k.ensures in search rules

pub put_choice-requires : goal.put_choice-requires
put_choice-requires c =
    rest_fits (joins (tab ∷ []) (number_or c.args.c c.args.n c.args.w.now)) c.requires c.put_byte-k.ensures

pub overflow_add-result : goal.overflow_add-result
overflow_add-result c =
    let h = both_fit (joins (tab ∷ []) (number_or c.args.c c.args.n c.args.w.now)) c.requires c.put_byte-k.ensures c.put_choice.ensures in search rules

pub returns : goal.returns
returns c =
    both_wrote (joins (tab ∷ []) (number_or c.args.c c.args.n c.args.w.now)) c.requires c.put_byte-k.ensures c.put_choice.ensures
