-- `wait_sum` meets its contract.
use Rattle.figures_cells.specs.Held.{system_of}
use Rattle.figures.specs.Answers.{ticks_of, wait_answer}
use Rattle.figures.specs.Figures.{is_section}
use Rattle.laws.specs.Choice.{when}
use Rattle.laws.specs.Rows.{Summed}
use Rattle.plan_tables.specs.Layout.{lock_row, task_row}
use Rattle.answers_sums.proofs.wait_sum.Given as goal

abbrev pub invariant-loop-j : goal.invariant-loop-j
invariant-loop-j at = Summed (λ l. when (is_section (system_of at.t) l) (ticks_of (wait_answer (system_of at.t) (task_row at.t.tasks.now at.i) l))) (lock_row at.t.tasks.now at.i) 1000000 at.n at.s at.j
