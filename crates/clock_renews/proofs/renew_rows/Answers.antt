-- `renew_rows` meets its contract: the rows of the first i VCPUs are renewed.
use mathlib.Core.Path.{◌∙◌}
use native.Mathlib.Omega.{arith}
use Rattle.clock_nexts.specs.WriteLaws.{rows_none, rows_old, rows_leave, rows_take, rows_to}
use Rattle.clock_renews.proofs.renew_rows.Goals as goal
use Rattle.clock_renews.proofs.renew_rows.Goals.{then-nexts-i, else-nexts-i}

pub loop-i-init : goal.loop-i-init
loop-i-init c = rows_none

pub renew_row-requires : goal.renew_row-requires
renew_row-requires c =
    let p = c.requires in
    let h = c.loop-i.invariant in
    let l = c.loop-i-test.true in
    (p.0, h.length_same ∙ p.1, omega arith, omega arith, rows_old h _ (omega arith) (omega arith) (p.2.rows _ (record { from = omega arith; to = omega arith })), p.3)

pub loop-i-preserved : goal.loop-i-preserved
loop-i-preserved c =
    let p = c.requires in
    let h = c.loop-i.invariant in
    let l = c.loop-i-test.true in
    elim c.if-nexts-i.branch [
      | then-nexts-i w ↦ rw w.nexts-is (rows_take h l w.renew_row.ensures)
      | else-nexts-i w ↦ rw w.nexts-is (rows_leave h l (p.2.rows _ (record { from = omega arith; to = omega arith })) w.if-nexts-i.false)
    ]

pub returns : goal.returns
returns c = rows_to c.loop-i.invariant c.loop-i-test.false
