-- `idle_uses` meets its contract. The loop's invariant: the uses of the VCPUs up to some number are made, and the others are in the set.
use mathlib.Core.Path.{◌≡◌}
use lib.ListN.{length}
use Rattle.board_rules.specs.PlanViews.{facts}
use Rattle.clock_marks.specs.Marks.{run_in, done_in}
use Rattle.clock_going.specs.Going.{timing_by, Going}
use Rattle.clock_uses.specs.Idling.{Idling}
use Rattle.clock_uses.proofs.idle_uses.Given as goal

abbrev pub invariant-loop-rest : goal.invariant-loop-rest
invariant-loop-rest l = Idling (facts l.plan) (timing_by l.plan.policy l.plan.overrun l.plan.view.now l.times) l.on l.t l.c (run_in l.initial.left l.initial.over l.initial.stopped l.holder l.waits l.initial.marks) (run_in l.left l.over l.stopped l.holder l.waits l.marks) l.rest l.initial.out l.at l.out l.w
    × Going l.plan.policy l.plan.overrun l.plan.view.now l.times l.left l.over l.stopped l.holder l.waits l.marks
    × (done_in l.marks ≡ done_in l.initial.marks)
    × (length l.out ≡ length l.initial.out)

abbrev pub decreases-loop-rest : goal.decreases-loop-rest
decreases-loop-rest l = l.rest
