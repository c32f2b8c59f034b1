-- `start_of` meets its contract: the ticks of the locks before this one are summed up.
use Prim.Native.Nat.{◌+◌}
use Rattle.laws.specs.Rows.{Summed}
use Rattle.plan_tables.specs.Layout.{lock_row}
use Rattle.clock_cells.proofs.start_of.Given as goal

abbrev pub invariant-loop-i : goal.invariant-loop-i
invariant-loop-i at = Summed (λ l. l.ticks + l.after) (lock_row at.t.tasks.now at.a) 2000000 at.e at.s at.i
