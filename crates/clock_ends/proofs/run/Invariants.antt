use Rattle.clock_ends.specs.Ends.{Known}
use Rattle.clock_skips.specs.Skips.{soonest}
use Rattle.clock_marks.specs.Marks.{run_in}
use Prim.Native.Nat.{◌+◌, ◌-◌}
use Rattle.clock_ends.proofs.run.Given as goal

abbrev pub invariant-loop-t : goal.invariant-loop-t
invariant-loop-t l = Known l.plan.policy l.plan.overrun l.plan.view.now l.times l.h (run_in l.initial.left l.initial.over l.initial.stopped l.initial.holder l.initial.waits l.initial.marks) l.t l.left l.over l.stopped l.holder l.waits l.marks l.nexts l.plain

abbrev pub decreases-loop-t : goal.decreases-loop-t
decreases-loop-t l = l.h - l.t + (l.h - soonest l.nexts)
