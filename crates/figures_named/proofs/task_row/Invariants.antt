-- `task_row` meets its contract: no row before this one is task (v, n).
use Rattle.laws.specs.Rows.{Lacking}
use Rattle.plan_tables.specs.Layout.{task_row}
use lib.Dec.{eqb}
use mathlib.Core.Bool.{◌&&◌}
use Rattle.figures_named.proofs.task_row.Given as goal

abbrev pub invariant-loop-a : goal.invariant-loop-a
invariant-loop-a l = Lacking (λ k. eqb k.v l.v && eqb k.n l.n) (task_row l.t.tasks.now) l.e l.a
