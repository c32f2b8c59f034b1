-- `misses_in` meets its contract.
use native.Mathlib.Omega.{arith}
use Rattle.clock_nexts.specs.Nexts.{misses_at}
use Rattle.clock_misses.specs.Rising.{some_lowest}
use Rattle.clock_misses.specs.DueLaws.{no_row_misses}
use Rattle.clock_misses.proofs.misses_in.Goals as goal

pub returns-then-nexts-a : goal.returns-then-nexts-a
returns-then-nexts-a c =
    let a = c.args in
    some_lowest 8 (misses_at a.times.now a.marks.now a.nexts.now a.t a.v) c.missed_n.ensures.0

pub returns : goal.returns
returns c =
    let r = c.requires.5 in
    let f = r.row_from in
    no_row_misses c.args.marks.now r (omega (arith, c.if-nexts-a.false))
