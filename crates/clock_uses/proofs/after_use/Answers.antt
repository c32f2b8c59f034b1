-- `after_use` meets its contract.
use mathlib.Core.Path.{refl, sym, ◌∙◌}
use Rattle.clock_uses.proofs.after_use.Goals as goal

pub returns-then-figure-eq0 : goal.returns-then-figure-eq0
returns-then-figure-eq0 c = record { kept = λ nz. absurd (nz (sym c.figure.ensures ∙ c.if-figure-eq0.true)); put = λ z. c.put_supply.ensures }

pub returns-else-figure-eq0 : goal.returns-else-figure-eq0
returns-else-figure-eq0 c = record { kept = λ nz. refl; put = λ z. absurd (c.if-figure-eq0.false (c.figure.ensures ∙ z)) }
