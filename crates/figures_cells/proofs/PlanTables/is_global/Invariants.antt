-- `is_global` meets its contract: no row before this one passes.
use Prim.Native.Nat.{◌-◌}
use Rattle.laws.specs.Rows.{Lacking}
use Rattle.plan.specs.Lookup.{is_global}
use Rattle.plan_tables.specs.Layout.{mutex_row}
use lib.Dec.{eqb}
use mathlib.Core.Bool.{◌&&◌}
use Rattle.figures_cells.proofs.PlanTables.is_global.Given as goal

abbrev pub invariant-loop-a : goal.invariant-loop-a
invariant-loop-a l = Lacking (λ x. eqb x.m l.m && is_global x.owner) (mutex_row l.self.mutexes.now) l.n l.a
