-- `clock_words::answer_rest` meets its contract.
use borrow.Author.Rules.{rules}
use Rattle.clock_words.specs.EventLaws.{answer_joins}
use Rattle.text_letters.specs.WroteLaws.{first_fits, ends, rest_fits, both_fit, both_wrote}
use Rattle.clock_words.proofs.answer_rest.Goals as goal

pub put-k-requires : goal.put-k-requires
put-k-requires c =
    first_fits (answer_joins c.args.a) c.requires

pub slice_bounds-answer_line-count : goal.slice_bounds-answer_line-count
slice_bounds-answer_line-count c =
    let h = ends (answer_joins c.args.a) c.requires c.put-k.ensures in search rules

pub slice_bounds-answer_line-start : goal.slice_bounds-answer_line-start
slice_bounds-answer_line-start c =
    let h = ends (answer_joins c.args.a) c.requires c.put-k.ensures in search rules

pub answer_line-requires : goal.answer_line-requires
answer_line-requires c =
    rest_fits (answer_joins c.args.a) c.requires c.put-k.ensures

pub overflow_add-result : goal.overflow_add-result
overflow_add-result c =
    let h = both_fit (answer_joins c.args.a) c.requires c.put-k.ensures c.answer_line.ensures in search rules

pub returns : goal.returns
returns c =
    both_wrote (answer_joins c.args.a) c.requires c.put-k.ensures c.answer_line.ensures
