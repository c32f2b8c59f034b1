-- `ceiling_of` meets its contract.
use Rattle.figures.specs.Figures.{locks_it}
use Rattle.laws.specs.Choice.{when}
use Rattle.laws.specs.Rows.{Greatest}
use Rattle.plan_tables.specs.Layout.{task_row}
use Rattle.figures_sections.proofs.ceiling_of.Given as goal

abbrev pub invariant-loop-h : goal.invariant-loop-h
invariant-loop-h l = Greatest (λ k. when (locks_it l.m k) k.n) (task_row l.t.tasks.now) 1000000 l.n l.s l.h
