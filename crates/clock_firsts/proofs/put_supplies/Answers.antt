-- `put_supplies` meets its contract: the VCPUs before this one stand in the two sets as the arrays say, all else is as it was.
use mathlib.Core.Path.{sym, ◌∙◌}
use native.Mathlib.Omega.{arith}
use Rattle.clock_firsts.specs.StartLaws.{supplied_none, supplied_more, supplied_all}
use Rattle.clock_firsts.proofs.put_supplies.Goals as goal

pub loop-v-init : goal.loop-v-init
loop-v-init c = supplied_none c.requires

pub put_supply-requires : goal.put_supply-requires
put_supply-requires c = let h = c.loop-v.invariant in (h.sized, h.some, omega arith)

pub loop-v-preserved : goal.loop-v-preserved
loop-v-preserved c =
    supplied_more c.loop-v.invariant (omega arith) c.put_supply.ensures

pub shape_of-marks : goal.shape_of-marks
shape_of-marks c = c.loop-v.invariant.sized.long ∙ sym c.requires.long

pub returns : goal.returns
returns c = supplied_all c.loop-v.invariant c.loop-v-test.false
