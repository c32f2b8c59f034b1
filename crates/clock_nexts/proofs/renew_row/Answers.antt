-- `renew_row` meets its contract.
use mathlib.Core.Path.{refl}
use native.Mathlib.Omega.{arith}
use Rattle.clock_nexts.specs.WriteLaws.{row_renewed}
use Rattle.clock_nexts.proofs.renew_row.Goals as goal

pub returns : goal.returns
returns c =
    let p = c.requires in
    let l = p.2 in
    let w = c.renew-r.ensures in
    row_renewed p.0 p.1 p.5 (record { from = p.2; to = p.3 }) (omega arith) refl p.4 w.0 w.1 refl
