use mathlib.Core.Path.{ap}
use lib.Dec.{eqb}
use Rattle.judge_coded.specs.Coded.{global}
use Rattle.judge_faults.proofs.is_global.Goals as goal

pub returns : goal.returns
returns c = ap (λ o. eqb o global) c.at.ensures
