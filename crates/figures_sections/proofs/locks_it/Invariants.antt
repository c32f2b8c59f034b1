-- `locks_it` meets its contract: no lock before this one is on m.
use Rattle.laws.specs.Rows.{Lacking}
use Rattle.plan_tables.specs.Layout.{lock_row}
use lib.Dec.{eqb}
use Rattle.figures_sections.proofs.locks_it.Given as goal

abbrev pub invariant-loop-j : goal.invariant-loop-j
invariant-loop-j at = Lacking (λ l. eqb l.m at.m) (lock_row at.t.tasks.now at.i) at.n at.j
