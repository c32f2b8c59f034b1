-- `fill_rows` meets its contract: the rows of the seats before this one are written.
use Rattle.clock_cells.specs.TaskRows.{Listed, SeatRow}
use Rattle.clock_views.proofs.fill_rows.Given as goal

abbrev pub invariant-loop-i : goal.invariant-loop-i
invariant-loop-i l = Listed (SeatRow l.t.plan l.t.tasks.now) 128 l.at l.i
