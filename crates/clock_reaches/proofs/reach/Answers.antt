use Rattle.clock_reaches.specs.Reaches.{stretch_less}
use native.Mathlib.Omega.{arith}
use Rattle.clock_reaches.proofs.reach.Goals as goal

pub returns : goal.returns
returns c =
    let a = c.sooner.ensures in
    let b = c.sub-most.ensures in
    let f = c.figure.ensures in
    (stretch_less c.stretch.ensures a.0, λ h. omega (arith, a.1, b, f))
