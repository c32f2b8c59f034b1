use Rattle.std.proofs.Common.{◌≡◌, ◌≤◌, length}
use Rattle.records.specs.Sheet.{saved}
use Rattle.records_saved.proofs.save.Given as goal

-- the first i rows are written as records
abbrev pub invariant-loop-i : goal.invariant-loop-i
invariant-loop-i l = (l.i ≤ l.n) × (length l.tasks ≡ length l.initial.tasks) × (l.tasks ≡ saved l.initial.tasks l.rows l.i)
