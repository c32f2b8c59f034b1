-- `tops` meets its contract: of the VCPUs that may be due, the tops of those that are no longer in the set are made.
use Rattle.board_rules.specs.PlanViews.{facts}
use Rattle.clock_marks.specs.Marks.{board_of}
use Rattle.clock_tops.specs.Topping.{Walking}
use Rattle.clock_tops.proofs.tops.Given as goal

abbrev pub invariant-loop-rest : goal.invariant-loop-rest
invariant-loop-rest l = Walking (facts l.plan) l.times l.on l.t (board_of l.initial.left l.initial.over l.initial.stopped l.holder l.waits) l.initial.marks l.nexts l.initial.out l.at l.rest (board_of l.left l.over l.stopped l.holder l.waits) l.marks l.out l.w

abbrev pub decreases-loop-rest : goal.decreases-loop-rest
decreases-loop-rest l = l.rest
