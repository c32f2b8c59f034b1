use Rattle.std.proofs.Common.{◌≡◌, ◌≤◌, length}
use Rattle.plan_tables.specs.Layout.{over}
use Rattle.records.specs.Sheet.{sheet_rows, cut_to}
use Rattle.records.proofs.load.Given as goal

-- the lent rows hold the numbers of the first i records
abbrev pub invariant-loop-i : goal.invariant-loop-i
invariant-loop-i l = (l.i ≤ l.k) × (length l.rows ≡ length l.initial.rows) × (l.rows ≡ over (sheet_rows (cut_to l.i l.tasks)) l.initial.rows)
