-- `log_replies::one_line_law` meets its contract.
use borrow.Author.Rules.{rules}
use mathlib.Core.List.{[], ◌∷◌}
use Rattle.laws.specs.Decimal.{decimal}
use Rattle.listing_lines.specs.LineLaws.{line_joins}
use Rattle.text_letters.specs.WroteLaws.{first_fits, ends, rest_fits, both_fit, both_wrote}
use Rattle.log_replies.proofs.one_line.Goals as goal

pub put-k-requires : goal.put-k-requires
put-k-requires c =
    first_fits (line_joins c.args.w.now (decimal c.args.x ∷ [])) c.requires

pub slice_bounds-last_rest-count : goal.slice_bounds-last_rest-count
slice_bounds-last_rest-count c =
    let h = ends (line_joins c.args.w.now (decimal c.args.x ∷ [])) c.requires c.put-k.ensures in search rules

pub slice_bounds-last_rest-start : goal.slice_bounds-last_rest-start
slice_bounds-last_rest-start c =
    let h = ends (line_joins c.args.w.now (decimal c.args.x ∷ [])) c.requires c.put-k.ensures in search rules

pub last_rest-requires : goal.last_rest-requires
last_rest-requires c =
    rest_fits (line_joins c.args.w.now (decimal c.args.x ∷ [])) c.requires c.put-k.ensures

pub overflow_add-result : goal.overflow_add-result
overflow_add-result c =
    let h = both_fit (line_joins c.args.w.now (decimal c.args.x ∷ [])) c.requires c.put-k.ensures c.last_rest.ensures in search rules

pub returns : goal.returns
returns c =
    both_wrote (line_joins c.args.w.now (decimal c.args.x ∷ [])) c.requires c.put-k.ensures c.last_rest.ensures
