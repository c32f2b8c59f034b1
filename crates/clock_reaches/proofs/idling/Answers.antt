use Rattle.clock_reaches.specs.Bounds.{idles_p, idles_d}
use native.Mathlib.Omega.{arith}
use mathlib.Core.Path.{refl, sym, ◌∙◌}
use Rattle.clock_reaches.proofs.idling.Goals as goal

pub returns-then-under_p : goal.returns-then-under_p
returns-then-under_p c = (c.idlers.ensures.0, idles_p (sym c.under_p.ensures ∙ c.if-under_p.true) c.idlers.ensures.1)

pub returns : goal.returns
returns c = (omega arith, idles_d (sym c.under_p.ensures ∙ c.if-under_p.false) refl)
