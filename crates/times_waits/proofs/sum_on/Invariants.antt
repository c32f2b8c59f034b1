-- `sum_on` meets its contract.
use Rattle.figures_cells.specs.Held.{system_of}
use Rattle.laws.specs.Rows.{Summed}
use Rattle.figures_slices.specs.Stored.{max_response}
use Rattle.plan_tables.specs.Layout.{lock_row, task_row}
use Rattle.figures_slices.specs.Costs.{response_on}
use Rattle.times_waits.proofs.sum_on.Given as goal

abbrev pub invariant-loop-j : goal.invariant-loop-j
invariant-loop-j l = Summed (response_on (system_of l.t) l.m (task_row l.t.tasks.now l.i)) (lock_row l.t.tasks.now l.i) max_response l.n l.s l.j
