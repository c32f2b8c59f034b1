-- `listing_lines::task_rest` meets its contract. Assumes nothing.
use borrow.Author.Rules.{rules}
use Rattle.listing_lines.specs.LineLaws.{task_rest}
use Rattle.text_letters.specs.WroteLaws.{first_fits, ends, rest_fits, both_fit, both_wrote}
use Rattle.listing_lines.proofs.task_rest.Goals as goal

pub tab_answer-k-requires : goal.tab_answer-k-requires
tab_answer-k-requires c =
    first_fits (task_rest c.args.a c.task_parts-p.ensures) c.requires

pub slice_bounds-ticks_rest-count : goal.slice_bounds-ticks_rest-count
slice_bounds-ticks_rest-count c =
    let h = ends (task_rest c.args.a c.task_parts-p.ensures) c.requires c.tab_answer-k.ensures in search rules

pub slice_bounds-ticks_rest-start : goal.slice_bounds-ticks_rest-start
slice_bounds-ticks_rest-start c =
    let h = ends (task_rest c.args.a c.task_parts-p.ensures) c.requires c.tab_answer-k.ensures in search rules

pub ticks_rest-requires : goal.ticks_rest-requires
ticks_rest-requires c =
    rest_fits (task_rest c.args.a c.task_parts-p.ensures) c.requires c.tab_answer-k.ensures

pub overflow_add-result : goal.overflow_add-result
overflow_add-result c =
    let h = both_fit (task_rest c.args.a c.task_parts-p.ensures) c.requires c.tab_answer-k.ensures c.ticks_rest.ensures in search rules

pub returns : goal.returns
returns c =
    both_wrote (task_rest c.args.a c.task_parts-p.ensures) c.requires c.tab_answer-k.ensures c.ticks_rest.ensures
