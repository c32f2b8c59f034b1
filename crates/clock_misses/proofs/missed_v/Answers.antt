-- `missed_v` meets its contract: none of the first i VCPUs has a task that misses.
use borrow.Author.Rules.{rules}
use native.Mathlib.Omega.{arith}
use Rattle.clock_misses.specs.Rising.{rising_none, rising_more, rising_out, rising_all}
use Rattle.clock_misses.proofs.missed_v.Goals as goal

pub loop-i-init : goal.loop-i-init
loop-i-init c = rising_none

pub misses_in-requires : goal.misses_in-requires
misses_in-requires c =
    let p = c.requires in
    let l = c.loop-i-test.true in
    (p.0, p.1, p.2, omega arith, omega arith, p.3.rows _ (record { from = omega arith; to = omega arith }))

pub returns-then-misses_in : goal.returns-then-misses_in
returns-then-misses_in c =
    (rising_out c.loop-i.invariant c.loop-i-test.true c.misses_in.ensures c.if-misses_in.true, search rules)

pub loop-i-preserved : goal.loop-i-preserved
loop-i-preserved c =
    rising_more c.loop-i.invariant c.loop-i-test.true c.misses_in.ensures c.if-misses_in.false

pub returns : goal.returns
returns c = (rising_all c.loop-i.invariant c.loop-i-test.false, search rules)
