-- `renew_rows` meets its contract: the rows of the first i VCPUs are renewed.
use Rattle.clock_nexts.specs.Nexts.{RowsRenewed}
use Rattle.clock_renews.proofs.renew_rows.Given as goal

abbrev pub invariant-loop-i : goal.invariant-loop-i
invariant-loop-i l = RowsRenewed l.times l.initial.nexts l.nexts l.t l.i
