use Rattle.clock_reaches.specs.Bounds.{least_four}
use native.Mathlib.Omega.{arith}
use Rattle.clock_reaches.proofs.least.Goals as goal

pub returns : goal.returns
returns c =
    let x = c.sooner-2.ensures in
    let y = c.sooner.ensures in
    let z = c.sooner-high.ensures in
    let w = c.sooner-low.ensures in
    (x.1, least_four c.args.plain.now c.at.ensures c.at-2.ensures c.at-3.ensures c.at-4.ensures (omega (arith, x.0, y.0, w.0)) (omega (arith, x.0, y.0, w.1)) (omega (arith, x.0, y.1, z.0)) (omega (arith, x.0, y.1, z.1)))
