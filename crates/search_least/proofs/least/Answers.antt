-- `search_least::least` meets its contract: its loop is a trace of the recurrence.
use Prim.Native.Nat.{◌-◌}
use native.Mathlib.Omega.{arith}
use Rattle.search.specs.Row.{rows_demand_law}
use Rattle.search.proofs.SearchLaws.{trace_start, trace_grows, trace_next, solve_fits, solve_late}
use Rattle.search_least.proofs.least.Goals as goal

pub loop-x-init : goal.loop-x-init
loop-x-init c = trace_start (rows_demand_law _ (omega arith)) (omega arith)

pub returns-then-next-x : goal.returns-then-next-x
returns-then-next-x c =
    solve_fits c.loop-x.invariant (omega arith) (omega arith) c.if-next-x.true

pub loop-x-smaller : goal.loop-x-smaller
loop-x-smaller c =
    let grows = trace_grows c.loop-x.invariant (omega arith) (omega arith) c.if-next-x.false in
    omega arith

pub loop-x-preserved : goal.loop-x-preserved
loop-x-preserved c =
    trace_next c.loop-x.invariant (omega arith) (omega arith) c.if-next-x.false

pub returns : goal.returns
returns c = solve_late c.loop-x.invariant (omega arith)
