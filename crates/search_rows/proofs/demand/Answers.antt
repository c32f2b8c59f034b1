-- `search_rows::demand` meets its contract: the total is the capped sum of the rows so far.
use native.Mathlib.Omega.{arith}
use Rattle.laws.specs.RowLaws.{each_row, capped_none, capped_all}
use Rattle.search.specs.Row.{Sound, rows_demand}
use Rattle.search.specs.TableLaws.{capped_below, capped_over}
use Rattle.search_rows.proofs.demand.Goals as goal

pub loop-k-init : goal.loop-k-init
loop-k-init c = capped_none c.capped-total.ensures

pub share_of-total-requires : goal.share_of-total-requires
share_of-total-requires c =
    (omega arith, c.requires.1, each_row Sound _ _ c.loop-k.k c.requires.2 c.loop-k-test.true)

pub returns-then-total-ge-CAP : goal.returns-then-total-ge-CAP
unfolding rows_demand
returns-then-total-ge-CAP c =
    capped_over c.loop-k.invariant c.loop-k-test.true c.share_of-total.ensures (omega arith)

pub loop-k-preserved : goal.loop-k-preserved
loop-k-preserved c =
    capped_below c.loop-k.invariant c.loop-k-test.true c.share_of-total.ensures (omega arith)

pub returns : goal.returns
unfolding rows_demand
returns c = capped_all c.loop-k.invariant c.loop-k-test.false
