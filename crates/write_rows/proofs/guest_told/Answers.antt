-- `write_rows::guest_told` meets its contract.
use Rattle.text_told.proofs.ToldLaws.{space_as, told_as, told_nothing}
use Rattle.write_rows.specs.RowTexts.{guest_lines, guest_none}
use Rattle.write_rows.proofs.guest_told.Goals as goal

pub line_one-requires : goal.line_one-requires
line_one-requires c = space_as (guest_lines c.args.guest c.if-begins.true) c.requires

pub returns-then-begins : goal.returns-then-begins
returns-then-begins c = told_as (guest_lines c.args.guest c.if-begins.true) c.line_one.ensures

pub returns : goal.returns
returns c = told_as (guest_none c.args.guest c.if-begins.false) (told_nothing c.args.on c.args.out.now c.args.n)
