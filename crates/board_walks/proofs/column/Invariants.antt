-- No column above n has the mark.
use Prim.Native.Nat.{◌-◌}
use lib.Dec.{eqb}
use lib.ListN.{get_or}
use Rattle.laws.specs.RangeLaws.{Down}
use Rattle.board_walks.proofs.column.Given as goal

abbrev pub invariant-loop-n : goal.invariant-loop-n
invariant-loop-n l = Down 8 (λ n. eqb (get_or l.row (n - 1) 0) l.w) l.n
