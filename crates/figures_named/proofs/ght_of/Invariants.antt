-- `ght_of` meets its contract.
use Rattle.figures_cells.specs.Held.{system_of}
use Rattle.figures.specs.Figures.{longest_global}
use Rattle.laws.specs.Choice.{when}
use Rattle.laws.specs.Rows.{Summed}
use Rattle.plan_tables.specs.Layout.{task_row}
use lib.Dec.{eqb}
use Rattle.figures_named.proofs.ght_of.Given as goal

abbrev pub invariant-loop-h : goal.invariant-loop-h
invariant-loop-h l = Summed (λ k. when (eqb k.v l.v) (longest_global (system_of l.t) k)) (task_row l.t.tasks.now) 1000000 l.n l.s l.h
