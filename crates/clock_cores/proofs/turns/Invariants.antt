-- `turns` meets its contract. The loop's invariant: the turns of the cores below c are made.
use Rattle.clock_marks.specs.Marks.{run_in}
use Rattle.clock_cores.specs.AllTurns.{Rest}
use Rattle.clock_cores.proofs.turns.Given as goal

abbrev pub invariant-loop-c : goal.invariant-loop-c
invariant-loop-c l = Rest l.plan.policy l.plan.overrun l.plan.view.now l.times l.on l.t (run_in l.initial.left l.initial.over l.initial.stopped l.initial.holder l.initial.waits l.initial.marks) l.initial.out l.at l.c l.left l.over l.stopped l.holder l.waits l.marks l.out l.w
