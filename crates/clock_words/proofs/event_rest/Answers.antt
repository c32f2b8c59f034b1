-- `clock_words::event_rest` meets its contract.
use borrow.Author.Rules.{rules}
use Rattle.clock_words.specs.EventLaws.{fields_join}
use Rattle.text_letters.specs.WroteLaws.{first_fits, ends, rest_fits, both_fit, both_wrote}
use Rattle.clock_words.proofs.event_rest.Goals as goal

pub event_tabs-k-requires : goal.event_tabs-k-requires
event_tabs-k-requires c =
    first_fits (fields_join c.args.e c.args.a) c.requires

pub slice_bounds-answer_rest-count : goal.slice_bounds-answer_rest-count
slice_bounds-answer_rest-count c =
    let h = ends (fields_join c.args.e c.args.a) c.requires c.event_tabs-k.ensures in search rules

pub slice_bounds-answer_rest-start : goal.slice_bounds-answer_rest-start
slice_bounds-answer_rest-start c =
    let h = ends (fields_join c.args.e c.args.a) c.requires c.event_tabs-k.ensures in search rules

pub answer_rest-requires : goal.answer_rest-requires
answer_rest-requires c =
    rest_fits (fields_join c.args.e c.args.a) c.requires c.event_tabs-k.ensures

pub overflow_add-result : goal.overflow_add-result
overflow_add-result c =
    let h = both_fit (fields_join c.args.e c.args.a) c.requires c.event_tabs-k.ensures c.answer_rest.ensures in search rules

pub returns : goal.returns
returns c =
    both_wrote (fields_join c.args.e c.args.a) c.requires c.event_tabs-k.ensures c.answer_rest.ensures
