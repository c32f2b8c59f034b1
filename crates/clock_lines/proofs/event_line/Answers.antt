-- `clock_lines::event_line` meets its contract.
use borrow.Author.Rules.{rules}
use Rattle.clock_words.specs.EventLaws.{event_joins}
use Rattle.text_letters.specs.WroteLaws.{first_fits, ends, rest_fits, both_fit, both_wrote}
use Rattle.clock_lines.proofs.event_line.Goals as goal

pub put_number-k-requires : goal.put_number-k-requires
put_number-k-requires c =
    first_fits (event_joins c.args.t c.args.e c.args.a) c.requires

pub slice_bounds-event_rest-count : goal.slice_bounds-event_rest-count
slice_bounds-event_rest-count c =
    let h = ends (event_joins c.args.t c.args.e c.args.a) c.requires c.put_number-k.ensures in search rules

pub slice_bounds-event_rest-start : goal.slice_bounds-event_rest-start
slice_bounds-event_rest-start c =
    let h = ends (event_joins c.args.t c.args.e c.args.a) c.requires c.put_number-k.ensures in search rules

pub event_rest-requires : goal.event_rest-requires
event_rest-requires c =
    rest_fits (event_joins c.args.t c.args.e c.args.a) c.requires c.put_number-k.ensures

pub overflow_add-result : goal.overflow_add-result
overflow_add-result c =
    let h = both_fit (event_joins c.args.t c.args.e c.args.a) c.requires c.put_number-k.ensures c.event_rest.ensures in search rules

pub returns : goal.returns
returns c =
    both_wrote (event_joins c.args.t c.args.e c.args.a) c.requires c.put_number-k.ensures c.event_rest.ensures
