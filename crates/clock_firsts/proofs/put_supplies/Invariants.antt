-- `put_supplies` meets its contract: the VCPUs before this one stand in the two sets as the arrays say, all else is as it was.
use Rattle.clock_firsts.specs.Firsts.{SuppliedTo}
use Rattle.clock_firsts.proofs.put_supplies.Given as goal

abbrev pub invariant-loop-v : goal.invariant-loop-v
invariant-loop-v l = SuppliedTo l.choice l.left l.over l.stopped l.initial.marks l.marks l.v
