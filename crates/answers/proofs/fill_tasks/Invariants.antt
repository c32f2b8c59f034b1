-- `fill_tasks` meets its contract: the answers before this one are written.
use Rattle.figures_cells.specs.Held.{system_of}
use Rattle.figures_slices.specs.Filled.{Filled, task_answer_row}
use Rattle.figures.specs.Answers.{task_answer}
use Rattle.laws.specs.Rows.{rows}
use Rattle.plan_tables.specs.Layout.{task_row}
use lib.ListN.{length}
use mathlib.Core.Path.{◌≡◌}
use Rattle.answers.proofs.fill_tasks.Given as goal

abbrev pub invariant-loop-i : goal.invariant-loop-i
invariant-loop-i l = (length l.rows ≡ length l.initial.rows) × Filled (λ x. task_answer_row (task_answer (system_of l.t) x)) (task_row l.t.tasks.now) l.initial.ta l.n l.ta l.i
