-- `global_sum` meets its contract.
use Rattle.figures_cells.specs.Held.{system_of}
use Rattle.figures.specs.Figures.{global_ticks}
use Rattle.laws.specs.Rows.{Summed}
use Rattle.plan_tables.specs.Layout.{lock_row}
use Rattle.figures_sections.proofs.global_sum.Given as goal

abbrev pub invariant-loop-j : goal.invariant-loop-j
invariant-loop-j l = Summed (global_ticks (system_of l.t)) (lock_row l.t.tasks.now l.i) 1000000 l.n l.s l.j
