-- `wait_costs` meets its contract.
use Rattle.figures_cells.specs.Held.{system_of}
use Rattle.laws.specs.Rows.{Summed}
use Rattle.plan_tables.specs.Layout.{task_row}
use Rattle.figures_slices.specs.Costs.{wait_cost}
use Rattle.times_waits.proofs.wait_costs.Given as goal

abbrev pub invariant-loop-i : goal.invariant-loop-i
invariant-loop-i l = Summed (wait_cost (system_of l.t) l.v l.m) (task_row l.t.tasks.now) 520008712000000 l.n l.s l.i
