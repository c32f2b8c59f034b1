-- `clock_asks::asks` meets its contract.
use Prim.Native.Nat.{◌-◌}
use Rattle.clock_marks.specs.Marks.{board_of, done_in}
use Rattle.clock_going.specs.Going.{timing_by}
use Rattle.clock_takes.specs.Asked.{KnownPick}
use Rattle.clock_asks.specs.Rest.{Rest}
use Rattle.clock_asks.proofs.asks.Given as goal

abbrev pub invariant-loop : goal.invariant-loop
invariant-loop l = Rest l.plan.policy l.plan.overrun l.plan.view.now l.times l.left l.over l.stopped l.on l.c l.t l.initial.holder l.initial.waits l.initial.marks l.initial.out l.at (129 - l.counter) l.holder l.waits l.marks l.out l.w × KnownPick (timing_by l.plan.policy l.plan.overrun l.plan.view.now l.times) l.c (board_of l.left l.over l.stopped l.holder l.waits) (done_in l.marks) l.fv l.hn
