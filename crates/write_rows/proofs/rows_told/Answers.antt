-- `write_rows::rows_told` meets its contract.
use borrow.Author.Rules.{rules}
use Prim.Native.Nat.{◌-◌}
use Rattle.write_rows.specs.RowTexts.{told_no_rows, space_row, told_row, rows_length, told_rows}
use Rattle.write_rows.proofs.rows_told.Goals as goal

pub loop-i-init : goal.loop-i-init
loop-i-init c = told_no_rows

pub row-k-requires : goal.row-k-requires
row-k-requires c =
    (search rules, space_row c.loop-i.invariant c.loop-i-test.true c.requires.1)

pub loop-i-preserved : goal.loop-i-preserved
loop-i-preserved c = told_row c.loop-i.invariant c.loop-i-test.true c.requires.1 c.row-k.ensures

pub shape_of-out : goal.shape_of-out
shape_of-out c = rows_length c.loop-i.invariant c.requires.1

pub returns : goal.returns
returns c = told_rows c.loop-i.invariant c.loop-i-test.false
