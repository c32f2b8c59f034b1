use Rattle.judge_coded.specs.Coded.{placed}
use mathlib.Core.Path.{refl}
use Rattle.judge_seen.proofs.placed.Goals as goal

pub returns : goal.returns
unfolding placed
returns c = refl
