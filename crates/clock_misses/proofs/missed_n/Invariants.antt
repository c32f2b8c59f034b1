-- `missed_n` meets its contract: none of the first i tasks misses.
use Rattle.clock_nexts.specs.Nexts.{misses_at}
use Rattle.clock_misses.specs.Rising.{Rising}
use Rattle.clock_misses.proofs.missed_n.Given as goal

abbrev pub invariant-loop-i : goal.invariant-loop-i
invariant-loop-i l = Rising 8 (misses_at l.times l.marks l.nexts l.t l.v) l.i
