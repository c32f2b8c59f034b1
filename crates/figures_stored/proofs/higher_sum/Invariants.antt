-- `higher_sum` meets its contract.
use Rattle.figures_cells.specs.Held.{system_of}
use Rattle.figures.specs.Figures.{higher_task, longest_global}
use Rattle.laws.specs.Choice.{when}
use Rattle.laws.specs.Rows.{Summed}
use Rattle.plan_tables.specs.Layout.{task_row}
use Rattle.figures_stored.proofs.higher_sum.Given as goal

abbrev pub invariant-loop-h : goal.invariant-loop-h
invariant-loop-h l = Summed (λ k. when (higher_task (task_row l.t.tasks.now l.i) k) (longest_global (system_of l.t) k)) (task_row l.t.tasks.now) 1000000 l.n l.s l.h
