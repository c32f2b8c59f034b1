use Rattle.clock_strides.specs.TurnsOn.{RestOn}
use Rattle.clock_marks.specs.Marks.{run_in}
use Rattle.clock_strides.proofs.turns_on.Given as goal

abbrev pub invariant-loop-c : goal.invariant-loop-c
invariant-loop-c l = RestOn l.look l.plan.policy l.plan.overrun l.plan.view.now l.times (run_in l.initial.left l.initial.over l.initial.stopped l.initial.holder l.initial.waits l.initial.marks) l.c l.left l.over l.stopped l.holder l.waits l.marks l.plain
