-- `renew_jobs` meets its contract.
use native.Mathlib.Omega.{arith}
use Rattle.clock_nexts.specs.WriteLaws.{rows_all}
use Rattle.clock_renews.proofs.renew_jobs.Goals as goal

pub returns : goal.returns
returns c =
    let p = c.requires in
    rows_all c.renew_rows.ensures p.1 p.3 (omega arith) c.soonest-r.ensures
