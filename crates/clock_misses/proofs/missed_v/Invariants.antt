-- `missed_v` meets its contract: none of the first i VCPUs has a task that misses.
use Rattle.clock_nexts.specs.Nexts.{misses_in}
use Rattle.clock_misses.specs.Rising.{Rising}
use Rattle.clock_misses.proofs.missed_v.Given as goal

abbrev pub invariant-loop-i : goal.invariant-loop-i
invariant-loop-i l = Rising 16 (misses_in l.times l.marks l.nexts l.t) l.i
