-- `is_held` meets its contract: no task before this one holds task i up.
use Rattle.figures_cells.specs.Held.{system_of}
use Rattle.figures.specs.Answers.{lacks_wait}
use Rattle.figures.specs.Figures.{higher_task}
use Rattle.laws.specs.Rows.{Lacking}
use Rattle.plan_tables.specs.Layout.{task_row}
use mathlib.Core.Bool.{◌&&◌}
use Rattle.times_tasks.proofs.is_held.Given as goal

abbrev pub invariant-loop-h : goal.invariant-loop-h
invariant-loop-h l = Lacking (λ k. higher_task (task_row l.t.tasks.now l.i) k && lacks_wait (system_of l.t) k) (task_row l.t.tasks.now) l.n l.h
