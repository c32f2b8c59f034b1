-- `search_rows::demand` meets its contract: the total is the capped sum of the rows so far.
use Rattle.laws.specs.Rows.{Capped}
use Rattle.search.specs.Row.{cap, row_in, share}
use Rattle.search_rows.proofs.demand.Given as goal

abbrev pub invariant-loop-k : goal.invariant-loop-k
invariant-loop-k l = Capped (share l.t) (row_in l.rows) l.base cap l.n l.total l.k
