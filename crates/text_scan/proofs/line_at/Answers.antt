-- `text_scan::line_at` meets its contract.
use Rattle.laws.specs.Steps.{head_count}
use Rattle.plan.specs.Limits.{lf}
use Rattle.text_scan.specs.ScanLaws.{next_fits, line_made}
use Rattle.text_scan.proofs.line_at.Goals as goal

pub slice_bounds-said_of-end : goal.slice_bounds-said_of-end
slice_bounds-said_of-end c = let k = c.cut-k in head_count lf _ k.result k.ensures

pub next_of-next-requires : goal.next_of-next-requires
next_of-next-requires c =
    let a = c.args in
    let r = c.rest-left in
    let k = c.cut-k in
    next_fits a.src.now a.at k.result _ r.ensures k.ensures

pub returns : goal.returns
returns c =
    let a = c.args in
    let r = c.rest-left in
    let k = c.cut-k in
    let x = c.said_of-said in
    let n = c.next_of-next in
    line_made a.src.now a.at k.result _ r.ensures k.ensures x.result n.result x.ensures n.ensures
