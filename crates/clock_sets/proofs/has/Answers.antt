use mathlib.Core.Path.{refl}
use Rattle.clock_sets.specs.Sets.{in_set}
use Rattle.clock_sets.proofs.has.Goals as goal

pub returns : goal.returns
unfolding in_set
returns c = refl
