-- `records::put_row` meets its contract.
use mathlib.Core.Path.{refl}
use native.Mathlib.Omega.{arith}
use Rattle.laws.specs.Sums.{flat}
use Rattle.laws.specs.Rows.{rows}
use Rattle.records.specs.Sheet.{locks_to}
use Rattle.records.specs.SheetLaws.{lock_more, locks_all}
use Rattle.records.proofs.put_row.Goals as goal

pub loop-j-init : goal.loop-j-init
unfolding locks_to flat rows
loop-j-init c = (omega arith, refl, refl)

pub loop-j-preserved : goal.loop-j-preserved
loop-j-preserved c =
    let l = c.loop-j in
    (omega arith, omega arith, lock_more _ _ l.d _ _ l.j l.invariant.2 c.put_three.ensures)

pub returns : goal.returns
returns c =
    let l = c.loop-j in
    locks_all _ _ _ l.d _ l.j c.put_five.ensures l.invariant.2 (omega arith) (omega arith)
