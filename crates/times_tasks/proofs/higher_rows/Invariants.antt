-- `higher_rows` meets its contract: the rows of the higher tasks before this one are written.
use Rattle.figures_cells.specs.Held.{system_of}
use Rattle.figures.specs.Figures.{higher_task}
use Rattle.search.specs.Row.{Picked}
use Rattle.plan_tables.specs.Layout.{task_row}
use Rattle.times_tasks.specs.Waits.{preempt_row}
use lib.ListN.{length}
use mathlib.Core.List.{[]}
use mathlib.Core.Path.{◌≡◌}
use Rattle.times_tasks.proofs.higher_rows.Given as goal

abbrev pub invariant-loop-h : goal.invariant-loop-h
invariant-loop-h l = (length l.rows ≡ length l.initial.rows) × Picked (higher_task (task_row l.t.tasks.now l.i)) (preempt_row (system_of l.t) l.gap) (task_row l.t.tasks.now) [] 0 l.count l.rows l.n l.h
