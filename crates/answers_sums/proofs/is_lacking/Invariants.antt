-- `is_lacking` meets its contract: no wait before this one lacks an answer.
use Rattle.figures_cells.specs.Held.{system_of}
use Rattle.figures.specs.Answers.{is_late, wait_answer}
use Rattle.figures.specs.Figures.{is_section}
use Rattle.laws.specs.Rows.{Lacking}
use Rattle.plan_tables.specs.Layout.{lock_row, task_row}
use mathlib.Core.Bool.{◌&&◌}
use Rattle.answers_sums.proofs.is_lacking.Given as goal

abbrev pub invariant-loop-j : goal.invariant-loop-j
invariant-loop-j at = Lacking (λ l. is_section (system_of at.t) l && is_late (wait_answer (system_of at.t) (task_row at.t.tasks.now at.i) l)) (lock_row at.t.tasks.now at.i) at.n at.j
