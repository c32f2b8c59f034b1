-- `longest_global` meets its contract.
use Rattle.figures_cells.specs.Held.{system_of}
use Rattle.figures.specs.Figures.{global_ticks}
use Rattle.laws.specs.Rows.{Greatest}
use Rattle.plan_tables.specs.Layout.{lock_row}
use Rattle.figures_sections.proofs.longest_global.Given as goal

abbrev pub invariant-loop-j : goal.invariant-loop-j
invariant-loop-j l = Greatest (global_ticks (system_of l.t)) (lock_row l.t.tasks.now l.i) 1000000 l.n l.s l.j
