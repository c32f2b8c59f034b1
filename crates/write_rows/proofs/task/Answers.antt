-- `write_rows::task` meets its contract.
use borrow.Author.Rules.{rules}
use Rattle.text_letters.specs.WroteLaws.{joins}
use Rattle.text_told.proofs.ToldLaws.{space_first, space_then, told_then}
use Rattle.write_rows.specs.RowTexts.{task_lines_law}
use Rattle.write_rows.proofs.task.Goals as goal

pub guest_told-k-requires : goal.guest_told-k-requires
guest_told-k-requires c =
    space_first (task_lines_law c.args.begins c.args.guest c.args.t.now c.args.i c.cell-count.ensures) c.requires.2

pub head-l-requires : goal.head-l-requires
head-l-requires c =
    let j = task_lines_law c.args.begins c.args.guest c.args.t.now c.args.i c.cell-count.ensures in
    (search rules, space_first (joins _ _) (space_then j c.requires.2 c.guest_told-k.ensures))

pub locks-requires : goal.locks-requires
locks-requires c =
    let j = task_lines_law c.args.begins c.args.guest c.args.t.now c.args.i c.cell-count.ensures in
    (search rules, search rules, space_then (joins _ _) (space_then j c.requires.2 c.guest_told-k.ensures) c.head-l.ensures)

pub returns : goal.returns
returns c =
    let j = task_lines_law c.args.begins c.args.guest c.args.t.now c.args.i c.cell-count.ensures in
    let g = c.guest_told-k.ensures in
    told_then j c.requires.2 g (told_then (joins _ _) (space_then j c.requires.2 g) c.head-l.ensures c.locks.ensures)
