-- `records::put_row` meets its contract.
use Prim.Native.Nat.{◌+◌, ◌≤◌}
use mathlib.Core.Path.{◌≡◌}
use lib.ListN.{length}
use lib.Seq.{sets}
use Rattle.records.specs.Sheet.{locks_to}
use Rattle.records.proofs.put_row.Given as goal

abbrev pub invariant-loop-j : goal.invariant-loop-j
invariant-loop-j l = (l.j ≤ 8) × (length l.d ≡ length l.initial.d) × (l.d ≡ sets l.initial.d (l.k + 5) (locks_to l.t l.j))
