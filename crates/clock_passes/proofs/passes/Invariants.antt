-- `clock_passes::passes` meets its contract: of those that hold a mutex, `rest` are left.
use Rattle.clock_marks.specs.Marks.{holders_cell}
use Rattle.clock_passes.specs.Passing.{Passing}
use Rattle.clock_passes.proofs.passes.Given as goal

abbrev pub invariant-loop-rest : goal.invariant-loop-rest
invariant-loop-rest l = Passing l.view l.marks l.v l.n (holders_cell l.marks l.v) l.rest

abbrev pub decreases-loop-rest : goal.decreases-loop-rest
decreases-loop-rest l = l.rest
