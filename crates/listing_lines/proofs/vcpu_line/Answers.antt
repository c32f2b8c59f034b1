-- `listing_lines::vcpu_line` meets its contract. Assumes nothing.
use borrow.Author.Rules.{rules}
use Rattle.laws.specs.Decimal.{decimal}
use Rattle.listing.specs.Listing.{answer_fields}
use Rattle.plan.specs.Line.{w_vcpu}
use Rattle.listing_lines.specs.LineLaws.{line_two}
use Rattle.text_letters.specs.WroteLaws.{first_fits, ends, rest_fits, both_fit, both_wrote}
use Rattle.listing_lines.proofs.vcpu_line.Goals as goal

pub word_one-k-requires : goal.word_one-k-requires
word_one-k-requires c =
    first_fits (line_two w_vcpu (decimal c.args.v) (answer_fields c.args.a)) c.requires

pub slice_bounds-task_rest-count : goal.slice_bounds-task_rest-count
slice_bounds-task_rest-count c =
    let h = ends (line_two w_vcpu (decimal c.args.v) (answer_fields c.args.a)) c.requires c.word_one-k.ensures in search rules

pub slice_bounds-task_rest-start : goal.slice_bounds-task_rest-start
slice_bounds-task_rest-start c =
    let h = ends (line_two w_vcpu (decimal c.args.v) (answer_fields c.args.a)) c.requires c.word_one-k.ensures in search rules

pub task_rest-requires : goal.task_rest-requires
task_rest-requires c =
    rest_fits (line_two w_vcpu (decimal c.args.v) (answer_fields c.args.a)) c.requires c.word_one-k.ensures

pub overflow_add-result : goal.overflow_add-result
overflow_add-result c =
    let h = both_fit (line_two w_vcpu (decimal c.args.v) (answer_fields c.args.a)) c.requires c.word_one-k.ensures c.task_rest.ensures in search rules

pub returns : goal.returns
returns c =
    both_wrote (line_two w_vcpu (decimal c.args.v) (answer_fields c.args.a)) c.requires c.word_one-k.ensures c.task_rest.ensures
