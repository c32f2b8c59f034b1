-- `write_rows::locks` meets its contract.
use borrow.Author.Rules.{rules}
use Prim.Native.Nat.{◌-◌}
use Rattle.write_rows.specs.RowTexts.{told_no_rows, space_row, told_row, rows_length, told_rows}
use Rattle.write_rows.proofs.locks.Goals as goal

pub loop-j-init : goal.loop-j-init
loop-j-init c = told_no_rows

pub lock-k-requires : goal.lock-k-requires
lock-k-requires c =
    (search rules, search rules, space_row c.loop-j.invariant c.loop-j-test.true c.requires.2)

pub loop-j-preserved : goal.loop-j-preserved
loop-j-preserved c = told_row c.loop-j.invariant c.loop-j-test.true c.requires.2 c.lock-k.ensures

pub shape_of-out : goal.shape_of-out
shape_of-out c = rows_length c.loop-j.invariant c.requires.2

pub returns : goal.returns
returns c = told_rows c.loop-j.invariant c.loop-j-test.false
