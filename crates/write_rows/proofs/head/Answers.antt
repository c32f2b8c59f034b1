-- `write_rows::head` meets its contract.
use Rattle.text_told.proofs.ToldLaws.{space_first, space_then, told_then}
use Rattle.write_rows.specs.RowTexts.{head_lines_law}
use Rattle.write_rows.proofs.head.Goals as goal

pub line_three-k-requires : goal.line_three-k-requires
line_three-k-requires c = space_first (head_lines_law c.args.t.now c.args.i c.cell-v.ensures c.cell-place.ensures c.cell-period.ensures c.cell-first.ensures) c.requires.1

pub line_one-requires : goal.line_one-requires
line_one-requires c =
    space_then (head_lines_law c.args.t.now c.args.i c.cell-v.ensures c.cell-place.ensures c.cell-period.ensures c.cell-first.ensures) c.requires.1 c.line_three-k.ensures

pub returns : goal.returns
returns c =
    told_then (head_lines_law c.args.t.now c.args.i c.cell-v.ensures c.cell-place.ensures c.cell-period.ensures c.cell-first.ensures) c.requires.1 c.line_three-k.ensures c.line_one.ensures
