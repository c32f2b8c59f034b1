-- `write_rows::rows_told` meets its contract.
use Rattle.write_rows.specs.Rows.{row_lines, ToldRows}
use Rattle.write_rows.proofs.rows_told.Given as goal

abbrev pub invariant-loop-i : goal.invariant-loop-i
invariant-loop-i l = ToldRows l.on (row_lines l.what l.t) l.c l.initial.out l.out l.n l.k l.i
