-- `search_least::least` meets its contract: its loop is a trace of the recurrence.
use Prim.Native.Nat.{◌+◌, ◌-◌}
use Rattle.search.specs.Row.{rows_in, rows_demand}
use Rattle.search.proofs.SearchLaws.{Trace}
use Rattle.search_least.proofs.least.Given as goal

abbrev pub invariant-loop-x : goal.invariant-loop-x
invariant-loop-x l = Trace (rows_demand l.base (rows_in l.rows l.n)) l.start l.limit l.rounds l.x

abbrev pub decreases-loop-x : goal.decreases-loop-x
decreases-loop-x l = l.limit + 1 - l.x
