-- `listing_lines::refused_line` meets its contract. Assumes nothing.
use borrow.Author.Rules.{rules}
use Rattle.listing_lines.specs.LineLaws.{refused_joins}
use Rattle.text_letters.specs.WroteLaws.{first_fits, ends, rest_fits, both_fit, both_wrote}
use Rattle.listing_lines.proofs.refused_line.Goals as goal

pub word_two-k-requires : goal.word_two-k-requires
word_two-k-requires c =
    first_fits (refused_joins c.args.c c.number_of-n.ensures) c.requires

pub slice_bounds-last_rest-count : goal.slice_bounds-last_rest-count
slice_bounds-last_rest-count c =
    let h = ends (refused_joins c.args.c c.number_of-n.ensures) c.requires c.word_two-k.ensures in search rules

pub slice_bounds-last_rest-start : goal.slice_bounds-last_rest-start
slice_bounds-last_rest-start c =
    let h = ends (refused_joins c.args.c c.number_of-n.ensures) c.requires c.word_two-k.ensures in search rules

pub last_rest-requires : goal.last_rest-requires
last_rest-requires c =
    rest_fits (refused_joins c.args.c c.number_of-n.ensures) c.requires c.word_two-k.ensures

pub overflow_add-result : goal.overflow_add-result
overflow_add-result c =
    let h = both_fit (refused_joins c.args.c c.number_of-n.ensures) c.requires c.word_two-k.ensures c.last_rest.ensures in search rules

pub returns : goal.returns
returns c =
    both_wrote (refused_joins c.args.c c.number_of-n.ensures) c.requires c.word_two-k.ensures c.last_rest.ensures
