-- No row above v has the mark.
use Prim.Native.Nat.{◌-◌}
use mathlib.Core.List.{[]}
use lib.Dec.{ltb}
use lib.ListN.{get_or}
use Rattle.laws.specs.RangeLaws.{Down}
use Rattle.board_walks.specs.Walks.{column_of}
use Rattle.board_walks.proofs.row_with.Given as goal

abbrev pub invariant-loop-v : goal.invariant-loop-v
invariant-loop-v l = Down 16 (λ v. ltb 0 (column_of (get_or l.rows (v - 1) []) l.w)) l.v
