-- `blocking_ght` meets its contract.
use Rattle.figures.specs.PartLaws.{is_in, is_out}
use Rattle.figures_slices.specs.Costs.{blocking_ght}
use mathlib.Core.Bool.{◌&&◌, not}
use mathlib.Core.Path.{ap}
use Rattle.times_vcpus.proofs.blocking_ght.Goals as goal

pub returns-then-d-lower : goal.returns-then-d-lower
unfolding blocking_ght
returns-then-d-lower c = let h = c.requires in is_in (ap (λ x. not c.args.d && x) c.is_lower_on-lower.ensures) c.if-d-lower.true (h.0.ghts.at _ h.2)

pub returns-else-d-lower : goal.returns-else-d-lower
unfolding blocking_ght
returns-else-d-lower c = is_out _ _ (ap (λ x. not c.args.d && x) c.is_lower_on-lower.ensures) c.if-d-lower.false
