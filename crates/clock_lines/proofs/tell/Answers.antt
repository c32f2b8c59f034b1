-- `clock_lines::tell` meets its contract.
use borrow.Author.Rules.{rules}
use mathlib.Core.Path.{sym}
use Rattle.clock_rules.specs.Trace.{event_line}
use Rattle.clock_lines.specs.Told.{told_off, told_to_off, left_fits, told_on, told_to_on, told_fits, begins_within}
use Rattle.clock_lines.proofs.tell.Goals as goal

pub slice_bounds-event_line-count : goal.slice_bounds-event_line-count
slice_bounds-event_line-count c = let h = begins_within (event_line c.args.t c.args.e c.args.a) c.args.out.now c.args.at c.if-on.true c.requires in search rules

pub slice_bounds-event_line-start : goal.slice_bounds-event_line-start
slice_bounds-event_line-start c = let h = begins_within (event_line c.args.t c.args.e c.args.a) c.args.out.now c.args.at c.if-on.true c.requires in search rules

pub event_line-requires : goal.event_line-requires
event_line-requires c = left_fits (event_line c.args.t c.args.e c.args.a) c.args.out.now c.args.at c.if-on.true c.requires

pub overflow_add-result : goal.overflow_add-result
overflow_add-result c =
    let h = told_fits (event_line c.args.t c.args.e c.args.a) c.args.out.now c.args.at c.if-on.true c.requires c.event_line.ensures in search rules

pub returns-then-on : goal.returns-then-on
returns-then-on c =
    let e = c.if-on.true in
    let x = event_line c.args.t c.args.e c.args.a in
    let w = c.event_line.ensures in record { value = told_to_on x c.args.out.now c.args.at e w; out_after = told_on x c.args.out.now c.args.at e c.requires w }

pub returns : goal.returns
returns c =
    let x = event_line c.args.t c.args.e c.args.a in record { value = sym (told_to_off x c.args.at c.if-on.false); out_after = sym (told_off x c.args.out.now c.args.at c.if-on.false) }
