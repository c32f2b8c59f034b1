-- Of those above n, `best` is the topmost by rank, and `high` its rank.
use Rattle.clock_sets.specs.Sets.{in_set}
use Rattle.clock_marks.specs.Marks.{held_cell}
use Rattle.clock_dues.specs.Picking.{rank_of}
use Rattle.clock_picks.specs.Scans.{Scanned}
use Rattle.clock_picks.proofs.pick_ranked.Given as goal

abbrev pub invariant-loop-n : goal.invariant-loop-n
invariant-loop-n l = Scanned 8 (in_set l.set) (λ j. rank_of l.view l.waits l.v (held_cell l.marks l.v j) j) l.n l.best l.high
