-- `longest_local` meets its contract.
use Rattle.figures_cells.specs.Held.{system_of}
use Rattle.figures.specs.Parts.{local_ticks}
use Rattle.laws.specs.Rows.{Greatest}
use Rattle.plan_tables.specs.Layout.{cell, lock_row, task_width}
use Rattle.figures_sections.proofs.longest_local.Given as goal

abbrev pub invariant-loop-j : goal.invariant-loop-j
invariant-loop-j l = Greatest (local_ticks (system_of l.t) l.n (cell l.t.tasks.now task_width l.i 0)) (lock_row l.t.tasks.now l.i) 1000000 l.e l.s l.j
