-- `write_rows::lock` meets its contract.
use Rattle.text_told.proofs.ToldLaws.{space_first, space_then, told_then}
use Rattle.write_rows.specs.RowTexts.{lock_lines_law}
use Rattle.write_rows.proofs.lock.Goals as goal

pub line_two-k-requires : goal.line_two-k-requires
line_two-k-requires c = space_first (lock_lines_law c.args.t.now c.args.i c.args.j c.cell-m.ensures c.cell-ticks.ensures c.cell-after.ensures) c.requires.2

pub line_one-requires : goal.line_one-requires
line_one-requires c =
    space_then (lock_lines_law c.args.t.now c.args.i c.args.j c.cell-m.ensures c.cell-ticks.ensures c.cell-after.ensures) c.requires.2 c.line_two-k.ensures

pub returns : goal.returns
returns c =
    told_then (lock_lines_law c.args.t.now c.args.i c.args.j c.cell-m.ensures c.cell-ticks.ensures c.cell-after.ensures) c.requires.2 c.line_two-k.ensures c.line_one.ensures
