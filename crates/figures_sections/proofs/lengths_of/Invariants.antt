-- `lengths_of` meets its contract.
use Prim.Native.Nat.{◌+◌}
use Rattle.laws.specs.Rows.{Summed}
use Rattle.plan_tables.specs.Layout.{lock_row}
use Rattle.figures_sections.proofs.lengths_of.Given as goal

abbrev pub invariant-loop-j : goal.invariant-loop-j
invariant-loop-j at = Summed (λ l. l.ticks + l.after) (lock_row at.t.tasks.now at.i) 2000000 at.n at.s at.j
