-- `add_cost` meets its contract.
use mathlib.Core.Path.{refl}
use Rattle.figures_slices.proofs.add_cost.Goals as goal

pub returns-then-cost-eq0 : goal.returns-then-cost-eq0
returns-then-cost-eq0 c = record { none = λ e. (refl, refl); some = λ n. absurd (n c.if-cost-eq0.true) }

pub returns : goal.returns
returns c = record { none = λ e. absurd (c.if-cost-eq0.false e); some = λ n. (c.push_row.ensures, refl) }
