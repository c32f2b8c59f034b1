-- `up_by` meets its contract.
use Rattle.laws.specs.SumLaws.{up_le}
use Rattle.laws.specs.Sums.{up}
use mathlib.Core.Path.{refl}
use Rattle.figures_stored.proofs.up_by.Goals as goal

pub returns : goal.returns
unfolding up
returns c = record { is = refl; small = up_le _ _ }
