use Rattle.clock.specs.Rooms.{Telling}
use Rattle.clock.proofs.tell_run.Given as goal

abbrev pub invariant-loop-t : goal.invariant-loop-t
invariant-loop-t g l = Telling l.plan.policy l.plan.overrun l.plan.view.now l.times l.h l.t l.left l.over l.stopped l.holder l.waits l.marks l.nexts l.out
