-- `renew_tops` meets its contract.
use Rattle.clock_nexts.specs.WriteLaws.{tops_renewed}
use Rattle.clock_renews.proofs.renew_tops.Goals as goal

pub returns : goal.returns
returns c =
    let p = c.requires in
    let w = c.renew_set-r.ensures in
    tops_renewed p.0 p.1 p.3 p.2 w.0 w.1
