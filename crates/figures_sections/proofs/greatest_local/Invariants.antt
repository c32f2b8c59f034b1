-- `greatest_local` meets its contract.
use Rattle.figures_cells.specs.Held.{system_of}
use Rattle.figures.specs.Figures.{longest_local, lower_task}
use Rattle.laws.specs.Choice.{when}
use Rattle.laws.specs.Rows.{Greatest}
use Rattle.plan_tables.specs.Layout.{task_row}
use Rattle.figures_sections.proofs.greatest_local.Given as goal

abbrev pub invariant-loop-h : goal.invariant-loop-h
invariant-loop-h l = Greatest (λ k. when (lower_task (task_row l.t.tasks.now l.i) k) (longest_local (system_of l.t) (task_row l.t.tasks.now l.i).n k)) (task_row l.t.tasks.now) 1000000 l.n l.s l.h
