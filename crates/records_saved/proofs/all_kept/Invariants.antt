-- `records_saved::all_kept` meets its contract: the rows are as they were.
use mathlib.Core.Path.{◌≡◌}
use Rattle.records_saved.proofs.all_kept.Given as goal

abbrev pub invariant-loop-i : goal.invariant-loop-i
invariant-loop-i l = l.rows ≡ l.initial.rows
