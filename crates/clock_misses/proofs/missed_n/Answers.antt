-- `missed_n` meets its contract: none of the first i tasks misses.
use borrow.Author.Rules.{rules}
use Rattle.clock_misses.specs.Rising.{rising_none, rising_more, rising_out, rising_all}
use Rattle.clock_misses.proofs.missed_n.Goals as goal

pub loop-i-init : goal.loop-i-init
loop-i-init c = rising_none

pub returns-then-misses : goal.returns-then-misses
returns-then-misses c =
    (rising_out c.loop-i.invariant c.loop-i-test.true c.misses.ensures c.if-misses.true, search rules)

pub loop-i-preserved : goal.loop-i-preserved
loop-i-preserved c =
    rising_more c.loop-i.invariant c.loop-i-test.true c.misses.ensures c.if-misses.false

pub returns : goal.returns
returns c = (rising_all c.loop-i.invariant c.loop-i-test.false, search rules)
